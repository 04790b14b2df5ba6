-- `finish::number_rows` meets its contract: numbering the rows from the loop's on comes to the same table and map.
use mathlib.Core.Path.{refl}
use native.Mathlib.Omega.{arith}
use borrow.Author.Tests.{eq-eqb, ne_eqb}
use Rattle.finish.proofs.NumberLaws.{numbering_kept, numbering_given, numbering_none, numbering_end}
use Rattle.finish.proofs.number_rows.Goals.{then-is_question+then-cell-eq0+in-Some, else-is_question, else-is_question-via-then-is_question+else-cell-eq0, else-is_question-via-else-is_question}
use Rattle.finish.proofs.number_rows.Goals as goal

pub returns-in_default : goal.returns-in_default
returns-in_default c = let it = numbering_none c.loop-row.invariant c.in_default.ensures.value (omega arith) in record { table_after = it.0; used_after = it.1 }

pub loop-row-preserved : goal.loop-row-preserved
loop-row-preserved c =
    let v = c.loop-row.invariant in
    let inside = c.loop-row-test.true in
    elim c.if-is_question.branch [
      | then-is_question+then-cell-eq0+in-Some w ↦ rw (w.table-is, w.used-is, w.at-is)
          (numbering_given v inside c.cell.ensures w.cell-then-is_question.ensures c.is_question.ensures (rw (w.if-is_question.true, eq-eqb _ 0 w.if-cell-eq0.true))
          w.in-Some.ensures.value w.in-Some.ensures.number w.set_cell.ensures w.mark.ensures)
      | else-is_question w ↦ rw (w.table-is, w.used-is, w.at-is) (elim w.else-is_question.branch [
        | else-is_question-via-then-is_question+else-cell-eq0 u ↦
            numbering_kept v inside c.cell.ensures u.cell-then-is_question.ensures c.is_question.ensures (rw (u.if-is_question.true, ne_eqb _ 0 u.if-cell-eq0.false))
        | else-is_question-via-else-is_question u ↦ numbering_kept v inside c.cell.ensures refl c.is_question.ensures (rw u.if-is_question.false)
      ])
    ]

pub returns : goal.returns
returns c = let it = numbering_end c.loop-row.invariant c.loop-row-test.false in record { table_after = it.0; used_after = it.1 }
