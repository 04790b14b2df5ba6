-- `names::key_of` meets its contract.
use mathlib.Core.Path.{ap}
use Rattle.std.proofs.Common.{arith}
use Rattle.std.proofs.lemmas.Grind.{common_steps}
use Rattle.names.specs.Names.{bucket_of, tag_of}
use Rattle.names.proofs.NameLaws.{key_none, key_some}
use Rattle.names.proofs.key_of.Goals.{in-Some, in-Some-2, in-None}
use Rattle.names.proofs.key_of.Goals as goal

pub returns-clause-bucket : goal.returns-clause-bucket
returns-clause-bucket c =
    ap bucket_of (elim c.match-name.branch [
      | in-Some w ↦ grind (arith, common_steps, key_some)
      | in-Some-2 w ↦ grind (arith, common_steps, key_some)
      | in-None w ↦ grind (arith, common_steps, key_none)
    ])

pub returns-clause-tag : goal.returns-clause-tag
returns-clause-tag c =
    ap tag_of (elim c.match-name.branch [
      | in-Some w ↦ grind (arith, common_steps, key_some)
      | in-Some-2 w ↦ grind (arith, common_steps, key_some)
      | in-None w ↦ grind (arith, common_steps, key_none)
    ])
