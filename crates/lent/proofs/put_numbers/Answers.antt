-- `lent::put_numbers` meets its contract.
-- Assumes nothing.
use mathlib.Core.Path.{◌∙◌}
use Rattle.lent.proofs.LentLaws.{put_first}
use Rattle.lent.proofs.put_numbers.Goals as goal

pub returns : goal.returns
returns c = c.clear.ensures ∙ put_first _ _ c.min-room.ensures c.copy_from_slice.ensures.after
