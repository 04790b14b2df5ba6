-- `face::vfr_show` meets its contract.
-- Assumes nothing.
use mathlib.Core.Path.{◌∙◌}
use Rattle.face.proofs.vfr_show.Goals as goal

pub returns : goal.returns
returns c =
    let show = c.show-a in record { table_after = show.ensures.table_after; out_after = show.ensures.out_after; answer_after = c.put_answer.ensures ∙ rw show.ensures.result_value }
