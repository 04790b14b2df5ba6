-- `walk::items::open_rule` meets its contract: a phrase, and the rule's row.
-- Assumes nothing.
use Rattle.walk.proofs.PhraseSteps.{takes_rule}
use Rattle.walk.proofs.items.open_rule.Goals as goal

pub returns : goal.returns
returns c = takes_rule _ _ c.in_ok-end.ensures c.rule_row-cells.ensures c.put_row.ensures
