-- `circles::turn` meets its contract: the rows below a have gained row k.
use Rattle.circles.specs.Circles.{Turned}
use Rattle.circles.proofs.turn.Given as goal

abbrev pub invariant-loop-a : goal.invariant-loop-a
invariant-loop-a l = Turned l.initial.map l.k l.a l.map
