-- `text::items::put_within` meets its contract. It ends since at each call of itself and at each turn fewer rows are left. The loop's invariant:
-- whoever prints the rest from here prints the whole.
-- Assumes nothing.
use native.Mathlib.Omega.{arith}
use Rattle.text.proofs.ItemLaws.{loop_none, loop_more, items_end, items_apart, items_next}
use Rattle.text.proofs.items.+put_within.Goals as goal

pub loop-row-init : goal.loop-row-init
loop-row-init t c = loop_none

pub returns-then-cell-parent : goal.returns-then-cell-parent
returns-then-cell-parent t c = c.loop-row.invariant.rest (items_apart c.cell.ensures c.if-cell-parent.true)

pub returns : goal.returns
returns t c = c.loop-row.invariant.rest (items_end c.loop-row-test.false)

pub loop-row-preserved : goal.loop-row-preserved
loop-row-preserved t c =
    loop_more c.loop-row.invariant (omega (arith, c.put_statement-within.ensures.more, c.put_within-next.ensures.more))
    (λ o r. items_next c.loop-row-test.true c.cell.ensures c.if-cell-parent.false c.put_statement-within.ensures c.put_within-next.ensures
    c.cell-in-loop-row.ensures c.put_closing.ensures)
