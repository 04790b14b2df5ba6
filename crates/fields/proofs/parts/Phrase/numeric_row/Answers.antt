-- `fields::parts::Phrase::numeric_row` meets its contract.
-- Assumes nothing.
use mathlib.Core.Path.{◌∙◌}
use Rattle.fields.proofs.EntryLaws.{set_there}
use lib.ListN.{get_or}
use Rattle.fields.proofs.parts.Phrase.numeric_row.Goals as goal

pub returns : goal.returns
returns c =
    c.with_marks.ensures
    ∙ rw (
      c.question_row-r.ensures,
      c.set_if.ensures,
      set_there (get_or c.args.self.now.k 8 0) 256,
      c.value.ensures,
      c.value-2.ensures,
      c.step.ensures,
      c.value-3.ensures,
      c.size_and_display.ensures,
    )
