-- `references::Found::form` meets its contract.
use mathlib.Core.Path.{refl, ap, ◌∙◌}
use Rattle.numbers.specs.Numbers.{used}
use Rattle.rows.specs.Columns as column
use Rattle.drafts.proofs.DraftLaws.{cell_read}
use Rattle.stages.proofs.references.Found.form.Goals as goal

pub returns : goal.returns
returns c = c.has.ensures ∙ ap (used c.args.self.now.forms.now) (cell_read _ _ column.A refl c.cell.ensures)
