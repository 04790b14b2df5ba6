-- `rule_values::place_row` meets its contract.
use Rattle.rule_values.proofs.PlaceLaws.{placed_other, placed_past, placed_rule}
use Rattle.rule_values.proofs.place_row.Goals as goal

pub returns-then-cell-ne-RULE : goal.returns-then-cell-ne-RULE
returns-then-cell-ne-RULE c =
    let s = c in
    placed_other s.args.table.now s.args.places.now s.args.row c.cell.ensures c.if-cell-ne-RULE.true

pub returns-then-places-rule : goal.returns-then-places-rule
returns-then-places-rule c =
    let s = c in
    placed_past s.args.table.now s.args.places.now s.args.row c.cell.ensures c.if-cell-ne-RULE.false
    c.cell-rule.ensures c.if-places-rule.true

pub returns : goal.returns
returns c =
    let s = c in
    placed_rule s.args.table.now s.args.places.now s.args.row c.cell.ensures c.if-cell-ne-RULE.false
    c.cell-rule.ensures
