-- `table_screen::values_of` meets its contract.
use Rattle.table_screen.proofs.CallLaws.{rules_whole, values_none, values_all}
use Rattle.table_screen.proofs.values_of.Goals as goal

pub returns-then-n-eq0 : goal.returns-then-n-eq0
returns-then-n-eq0 c =
    let n = c in
    values_none _ _ _ _ _ n.count_rules.ensures n.last_rule-n.ensures c.if-n-eq0.true n.no_values-values.ensures

pub slice_bounds-find_values-end-2 : goal.slice_bounds-find_values-end-2
slice_bounds-find_values-end-2 c =
    let o = c in
    rules_whole _ _ o.last_rule-n.ensures o.order_rules-rules.ensures

pub returns : goal.returns
returns c =
    let p = c in
    let o = p in
    let n = o in
    values_all _ _ _ _ _ n.count_rules.ensures n.last_rule-n.ensures
    o.order_rules-rules.ensures p.find_places-places.ensures n.no_values-values.ensures c.find_values.ensures
