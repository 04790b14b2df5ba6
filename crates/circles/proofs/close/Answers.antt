-- `circles::close` meets its contract: k turns are made.
use Rattle.std.proofs.Common.{arith}
use Rattle.circles.proofs.Turns.{closing_start, closing_next, closing_end}
use Rattle.circles.proofs.close.Goals as goal

pub loop-k-init : goal.loop-k-init
loop-k-init c = closing_start _ _

pub loop-k-preserved : goal.loop-k-preserved
loop-k-preserved c = closing_next c.loop-k.invariant (omega (arith, c.last_rule-end.ensures)) (omega arith) c.turn.ensures

pub returns-2 : goal.returns-2
returns-2 c =
    closing_end (closing_next c.loop-k.invariant (omega (arith, c.last_rule-end.ensures)) (omega arith) c.turn.ensures)
    c.last_rule-end.ensures (omega arith)
