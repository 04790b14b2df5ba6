-- `circles::close` meets its contract: k turns are made.
use Rattle.circles.proofs.Turns.{Closing}
use Rattle.circles.proofs.close.Given as goal

abbrev pub invariant-loop-k : goal.invariant-loop-k
invariant-loop-k l = Closing l.initial.map l.end l.k l.map
