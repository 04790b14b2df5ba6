-- `names::add` meets its contract.
use native.Mathlib.Omega.{arith}
use Rattle.names.specs.Names.{key_of}
use Rattle.names.proofs.NameLaws.{add_none, add_some}
use Rattle.names.proofs.add.Goals as goal

pub returns-then-saturating_sub-entered : goal.returns-then-saturating_sub-entered
returns-then-saturating_sub-entered c = add_none c.args.index.now c.args.entered (key_of c.args.src.now c.args.mark c.args.rule) c.args.row c.args.mark (omega arith)

pub returns : goal.returns
returns c = add_some c.args.index.now c.args.entered (key_of c.args.src.now c.args.mark c.args.rule) c.args.row c.args.mark (omega arith) (rw c.place_of.ensures at c.key_of-bucket.ensures.bucket) (rw c.place_of.ensures at c.key_of-bucket.ensures.tag) c.pack.ensures
