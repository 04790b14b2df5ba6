-- `ranks::order` meets its contract.
use Rattle.ranks.proofs.Places.{Ordering}
use Rattle.ranks.proofs.order.Given as goal

abbrev pub invariant-loop-r : goal.invariant-loop-r
invariant-loop-r l = Ordering l.all l.end l.r l.order l.next
