-- `question_kinds::mark_row` meets its contract, kind by kind.
use mathlib.Core.Path.{refl}
use Rattle.rows.specs.Codes.{is_question}
use Rattle.question_kinds.specs.Kinds.{is_goto, is_checkbox}
use Rattle.question_kinds.proofs.Marks.{row_marked}
use Rattle.question_kinds.proofs.mark_row.Goals as goal

pub returns : goal.returns
returns c =
    let second = c in
    let first = second in
    let own = first in
    let s = own in
    let t = s.args.table.now in
    let code = own.cell-code.ensures in
    let number = own.cell-own.ensures in record { gotos_after = row_marked is_goto s.args.kinds.now.gotos t s.args.row code number refl first.mark_if.ensures; checkboxes_after = row_marked is_checkbox s.args.kinds.now.checkboxes t s.args.row code number refl second.mark_if-2.ensures; questions_after = row_marked is_question s.args.kinds.now.questions t s.args.row code number c.is_question.ensures c.mark_if-3.ensures }
