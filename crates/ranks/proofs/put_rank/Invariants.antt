-- `ranks::put_rank` meets its contract.
use lib.Dec.{eqb}
use lib.ListN.{get_or}
use Rattle.ranks.proofs.Places.{Putting}
use Rattle.ranks.proofs.put_rank.Given as goal

abbrev pub invariant-loop-a : goal.invariant-loop-a
invariant-loop-a l = Putting (λ x. eqb (get_or l.ranks x 0) l.r) l.n l.initial.order l.i l.a l.order l.next
