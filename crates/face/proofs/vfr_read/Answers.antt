-- `face::vfr_read` meets its contract.
-- Assumes nothing.
use mathlib.Core.Path.{◌∙◌}
use Rattle.face.proofs.vfr_read.Goals as goal

pub returns : goal.returns
returns c =
    let read = c.read-a in record { table_after = read.ensures.table_after; answer_after = c.put_answer.ensures ∙ rw read.ensures.result_value }
