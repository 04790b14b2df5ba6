-- `question_kinds::mark_rows` meets its contract: what is left of the rows is still to be marked.
use Rattle.question_kinds.proofs.Marks.{marking_start, marking_next, marking_end}
use Rattle.question_kinds.proofs.mark_rows.Goals as goal

pub loop-row-init : goal.loop-row-init
loop-row-init c = record { gotos = marking_start _ _ _ _; checkboxes = marking_start _ _ _ _; questions = marking_start _ _ _ _ }

pub loop-row-preserved : goal.loop-row-preserved
loop-row-preserved c =
    let inv = c.loop-row.invariant in
    let more = c.loop-row-test.true in
    let told = c.mark_row.ensures in record {
      gotos = marking_next _ _ _ inv.gotos more told.gotos_after;
      checkboxes = marking_next _ _ _ inv.checkboxes more told.checkboxes_after;
      questions = marking_next _ _ _ inv.questions more told.questions_after;
    }

pub returns : goal.returns
returns c =
    let inv = c.loop-row.invariant in
    let done = c.loop-row-test.false in record {
      gotos_after = marking_end _ _ _ inv.gotos done;
      checkboxes_after = marking_end _ _ _ inv.checkboxes done;
      questions_after = marking_end _ _ _ inv.questions done;
    }
