-- `face::vfr_token` meets its contract.
-- Assumes nothing.
use mathlib.Core.Path.{◌∙◌}
use Rattle.face.proofs.vfr_token.Goals as goal

pub returns : goal.returns
returns c =
    let view = c.view-seen in
    let is_last = c.is_last in
    c.put_numbers.ensures ∙ rw (is_last.ensures, view.ensures)
