-- `walk::items::item` meets its contract, one return for each statement.
-- Assumes nothing.
use Rattle.walk.proofs.StatementSteps.{item_reads, subtitle_is, text_is, label_is, goto_is, checkbox_is}
use Rattle.walk.proofs.items.item.Goals as goal

pub returns-in-74 : goal.returns-in-74
returns-in-74 c = item_reads subtitle_is c.in-74.is c.flat.ensures

pub returns-in-76 : goal.returns-in-76
returns-in-76 c = item_reads text_is c.in-76.is c.flat-in-76.ensures

pub returns-in-61 : goal.returns-in-61
returns-in-61 c = item_reads label_is c.in-61.is c.flat-in-61.ensures

pub returns-in-57 : goal.returns-in-57
returns-in-57 c = item_reads goto_is c.in-57.is c.flat-in-57.ensures

pub returns-in-43 : goal.returns-in-43
returns-in-43 c = item_reads checkbox_is c.in-43.is c.flat-in-43.ensures
