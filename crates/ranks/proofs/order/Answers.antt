-- `ranks::order` meets its contract.
use Rattle.std.proofs.Common.{arith, rules}
use Rattle.ranks.proofs.Places.{ordering_start, ordering_next, ordering_end}
use Rattle.ranks.proofs.order.Goals as goal

pub loop-r-init : goal.loop-r-init
loop-r-init c = ordering_start _ _ (search rules)

pub loop-r-preserved : goal.loop-r-preserved
loop-r-preserved c = ordering_next _ _ c.loop-r.invariant (omega arith) c.put_rank-next.ensures

pub returns : goal.returns
returns c = ordering_end _ _ c.loop-r.invariant _ c.args.n c.all_ranks-all.ensures c.last_rule-end.ensures (omega arith)
