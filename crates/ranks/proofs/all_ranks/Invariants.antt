-- `ranks::all_ranks` meets its contract.
use Rattle.ranks.proofs.Places.{Knowing}
use Rattle.ranks.proofs.all_ranks.Given as goal

abbrev pub invariant-loop-a : goal.invariant-loop-a
invariant-loop-a l = Knowing l.map l.a l.own-items
