-- `text::items::put_text` meets its contract.
-- Assumes nothing.
use Rattle.text.proofs.ItemLaws.{text_printed}
use Rattle.text.proofs.items.put_text.Goals as goal

pub returns : goal.returns
returns c = text_printed c.put_opening.ensures c.put_within.ensures c.put_closing.ensures
