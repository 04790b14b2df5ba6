-- `face::vfr_resolve` meets its contract.
-- Assumes nothing.
use mathlib.Core.Path.{◌∙◌}
use Rattle.face.proofs.vfr_resolve.Goals as goal

pub returns : goal.returns
returns c =
    let resolve = c.resolve-a in record { table_after = resolve.ensures.table_after; out_after = resolve.ensures.out_after; answer_after = c.put_answer.ensures ∙ rw resolve.ensures.result_value }
