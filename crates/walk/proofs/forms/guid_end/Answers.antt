-- `walk::forms::guid_end` meets its contract, with the inner brace and without.
-- Assumes nothing.
use Rattle.walk.proofs.SetSteps.{braced_takes, plain_takes}
use Rattle.walk.proofs.forms.guid_end.Goals as goal

pub returns-then-s-eq-OPEN_BRACE : goal.returns-then-s-eq-OPEN_BRACE
returns-then-s-eq-OPEN_BRACE c = braced_takes c.if-s-eq-OPEN_BRACE.true c.read_phrase.ensures

pub returns : goal.returns
returns c = plain_takes c.if-s-eq-OPEN_BRACE.false c.read_phrase-2.ensures
