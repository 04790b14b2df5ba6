-- `expression_rows::value_after` meets its contract.
use Rattle.expression_rows.proofs.ValueLaws.{after_past, after_row_lem}
use Rattle.expression_rows.proofs.value_after.Goals as goal

pub returns-then-count-row : goal.returns-then-count-row
returns-then-count-row c = after_past _ _ _ _ _ _ _ c.if-count-row.true

pub returns : goal.returns
returns c = after_row_lem _ _ _ _ _ _ _ c.expression_end-end.ensures.is c.evaluate.ensures
