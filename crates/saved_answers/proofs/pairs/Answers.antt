-- `saved_answers::pairs` meets its contract.
use mathlib.Core.Path.{ap, ◌∙◌}
use mathlib.Core.List.{[]}
use native.Mathlib.Omega.{arith}
use lib.ListN.{get_or}
use Rattle.saved_answers.specs.Answers.{count}
use Rattle.saved_answers.proofs.PairLaws.{pair_at}
use Rattle.saved_answers.proofs.pairs.Goals as goal

pub returns-clause-each : goal.returns-clause-each
returns-clause-each c k h =
    let s = c.args.saved.now in
    ap (λ answers. get_or answers k []) c.as_chunks.ensures.front ∙ pair_at s (count s) k h (omega arith)
