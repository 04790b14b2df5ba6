-- `walk::steps::word` meets its contract.
-- Assumes nothing.
use mathlib.Core.Path.{refl}
use Rattle.walk.proofs.ExpressionSteps.{word_reads}
use Rattle.walk.proofs.steps.word.Goals as goal

pub returns : goal.returns
returns c = word_reads refl c.requires.1 c.pass.ensures c.put_word_row.ensures
