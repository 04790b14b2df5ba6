-- `text::items::put_statement` meets its contract.
-- Assumes nothing.
use Rattle.text.proofs.ItemLaws.{opened_plain, opened_expressed}
use Rattle.text.proofs.items.put_statement.Goals as goal

pub returns-then-end-row : goal.returns-then-end-row
returns-then-end-row c = opened_plain c.requires c.put_opening.ensures c.expression_end-end.ensures.stretch c.if-end-row.true

pub returns : goal.returns
returns c =
    opened_expressed c.requires c.put_opening.ensures c.expression_end-end.ensures.stretch c.if-end-row.false c.put_expression.ensures c.cell.ensures
    c.put_expression_end.ensures
