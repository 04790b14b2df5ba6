-- `repeats::number_of_form` meets its contract.
use mathlib.Core.Path.{refl}
use Rattle.rows.specs.Columns as column
use Rattle.drafts.specs.Faults.{draft_at}
use Rattle.drafts.proofs.DraftLaws.{cell_read}
use Rattle.stages.proofs.RepeatLaws.{number_form, number_no_form}
use Rattle.stages.proofs.repeats.number_of_form.Goals as goal

pub returns-then-cell-eq-FORM : goal.returns-then-cell-eq-FORM
returns-then-cell-eq-FORM c =
    number_form (draft_at c.args.table.now c.args.row) (cell_read _ _ column.CODE refl c.cell.ensures) (cell_read _ _ column.OWN refl c.cell-then-cell-eq-FORM.ensures) c.if-cell-eq-FORM.true

pub returns-else-cell-eq-FORM : goal.returns-else-cell-eq-FORM
returns-else-cell-eq-FORM c = number_no_form (draft_at c.args.table.now c.args.row) (cell_read _ _ column.CODE refl c.cell.ensures) c.if-cell-eq-FORM.false
