-- `table_screen::count_rules` meets its contract: what is left of the rows is still to be counted.
use native.Mathlib.Omega.{arith}
use Rattle.table_screen.proofs.CountLaws.{counting_start, counting_rule, counting_other, counting_end}
use Rattle.table_screen.proofs.count_rules.Goals as goal
use Rattle.table_screen.proofs.count_rules.Goals.{then-cell-eq-RULE, else-cell-eq-RULE}

pub loop-row-init : goal.loop-row-init
loop-row-init c = counting_start _ _

pub overflow_add-rules : goal.overflow_add-rules
overflow_add-rules c = omega (arith, c.loop-row.invariant.few)

pub loop-row-preserved : goal.loop-row-preserved
loop-row-preserved c =
    let inside = c.loop-row-test.true in
    elim c.if-cell-eq-RULE.branch [
      | then-cell-eq-RULE w ↦ rw w.rules-is (counting_rule _ _ c.loop-row.invariant inside c.cell.ensures w.if-cell-eq-RULE.true)
      | else-cell-eq-RULE w ↦ rw w.rules-is (counting_other _ _ c.loop-row.invariant inside c.cell.ensures w.if-cell-eq-RULE.false)
    ]

pub returns : goal.returns
returns c = counting_end _ _ c.loop-row.invariant c.loop-row-test.false
