-- `circles::join_row` meets its contract: after j turns the first j words of row k are joined to row a.
use Rattle.circles.proofs.Rows.{Joining}
use Rattle.circles.proofs.join_row.Given as goal

abbrev pub invariant-loop-j : goal.invariant-loop-j
invariant-loop-j l = Joining l.initial.map l.a l.k l.j l.map
