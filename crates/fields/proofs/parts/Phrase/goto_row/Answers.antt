-- `fields::parts::Phrase::goto_row` meets its contract.
-- Assumes nothing.
use mathlib.Core.Path.{◌∙◌}
use Rattle.fields.proofs.parts.Phrase.goto_row.Goals as goal

pub returns : goal.returns
returns c = c.with_marks.ensures ∙ rw (c.question_row-r.ensures, c.value.ensures)
