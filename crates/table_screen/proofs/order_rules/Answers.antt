-- `table_screen::order_rules` meets its contract.
use Rattle.table_screen.proofs.CallLaws.{rules_ordered}
use Rattle.table_screen.proofs.order_rules.Goals as goal

pub returns : goal.returns
returns c =
    let steps = c in
    rules_ordered _ _ _ steps.empty-map.ensures steps.add_steps.ensures.adds c.close.ensures c.order.ensures
