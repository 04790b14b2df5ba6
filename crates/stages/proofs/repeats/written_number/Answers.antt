-- `repeats::written_number` meets its contract.
use mathlib.Core.Path.{refl}
use Rattle.rows.specs.Columns as column
use Rattle.drafts.specs.Faults.{draft_at}
use Rattle.drafts.proofs.DraftLaws.{cell_read}
use Rattle.stages.proofs.RepeatLaws.{number_question, number_no_question}
use Rattle.stages.proofs.repeats.written_number.Goals as goal

pub returns-then-is_question : goal.returns-then-is_question
returns-then-is_question c =
    number_question (draft_at c.args.table.now c.args.row) (cell_read _ _ column.CODE refl c.cell.ensures) c.is_question.ensures
    (cell_read _ _ column.OWN refl c.cell-then-is_question.ensures) c.if-is_question.true

pub returns-else-is_question : goal.returns-else-is_question
returns-else-is_question c =
    number_no_question (draft_at c.args.table.now c.args.row) (cell_read _ _ column.CODE refl c.cell.ensures) c.is_question.ensures c.if-is_question.false
