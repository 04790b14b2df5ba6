-- `face::vfr_read_family` meets its contract.
-- Assumes nothing.
use mathlib.Core.Path.{◌∙◌}
use Rattle.face.proofs.vfr_read_family.Goals as goal

pub returns : goal.returns
returns c =
    let family = c.read_family-whole in record { table_after = family.ensures.table_after; answers_after = family.ensures.answers_after; answer_after = c.put_answer.ensures ∙ rw family.ensures.result_value }
