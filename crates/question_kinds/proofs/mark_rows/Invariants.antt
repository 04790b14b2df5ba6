-- `question_kinds::mark_rows` meets its contract: what is left of the rows is still to be marked.
use Rattle.rows.specs.Codes.{is_question}
use Rattle.question_kinds.specs.Kinds.{is_goto, is_checkbox}
use Rattle.question_kinds.proofs.Marks.{Marking}
use Rattle.question_kinds.proofs.mark_rows.Given as goal

abbrev pub invariant-loop-row : goal.invariant-loop-row
invariant-loop-row l =
    record {
      gotos : Marking is_goto l.table l.count l.initial.kinds.gotos l.kinds.gotos l.row;
      checkboxes : Marking is_checkbox l.table l.count l.initial.kinds.checkboxes l.kinds.checkboxes l.row;
      questions : Marking is_question l.table l.count l.initial.kinds.questions l.kinds.questions l.row;
    }
