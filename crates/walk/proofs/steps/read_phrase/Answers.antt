-- `walk::steps::read_phrase` meets its contract: the phrase's theorem.
-- Assumes nothing.
use Rattle.walk.proofs.PhraseSteps.{takes_on, takes_off}
use Rattle.walk.proofs.steps.read_phrase.Goals as goal

pub returns-then-c-ne0 : goal.returns-then-c-ne0
returns-then-c-ne0 c = takes_off _ c.requires c.read-c.ensures c.if-c-ne0.true

pub returns : goal.returns
returns c = takes_on _ c.requires c.read-c.ensures c.if-c-ne0.false
