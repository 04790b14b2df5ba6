-- `ranks::put_rank` meets its contract.
use Rattle.std.proofs.Common.{arith}
use Rattle.ranks.proofs.Places.{putting_start, putting_next, putting_end}
use Rattle.ranks.proofs.put_rank.Goals as goal

pub loop-a-init : goal.loop-a-init
loop-a-init c = putting_start _ _ _ _

pub loop-a-preserved : goal.loop-a-preserved
loop-a-preserved c = putting_next c.loop-a.invariant (omega arith) c.put_if-next.ensures

pub returns : goal.returns
returns c = putting_end c.loop-a.invariant (omega arith)

pub returns-2 : goal.returns-2
returns-2 c = putting_end (putting_next c.loop-a.invariant (omega arith) c.put_if-next.ensures) (omega arith)
