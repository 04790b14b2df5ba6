-- `walk::steps::flat` meets its contract: a phrase, and its row.
-- Assumes nothing.
use Rattle.walk.proofs.PhraseSteps.{takes_row}
use Rattle.walk.proofs.steps.flat.Goals as goal

pub returns : goal.returns
returns c = takes_row _ _ _ c.requires.1 c.in_ok-end.ensures c.put_phrase_row.ensures
