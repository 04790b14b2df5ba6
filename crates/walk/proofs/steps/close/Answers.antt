-- `walk::steps::close` meets its contract: a phrase, with no row.
-- Assumes nothing.
use Rattle.walk.proofs.PhraseSteps.{takes_closed}
use Rattle.walk.proofs.steps.close.Goals as goal

pub returns : goal.returns
returns c = record { reads = λ t. takes_closed c.read_phrase.ensures }
