-- `print::shown::put_truth` meets its contract.
-- Assumes nothing.
use Rattle.spellings.proofs.Printing.{as_words}
use Rattle.print.proofs.PhraseLaws.{truth_true, truth_false}
use Rattle.print.proofs.shown.put_truth.Goals as goal

pub returns-then-value-eq1 : goal.returns-then-value-eq1
returns-then-value-eq1 c = as_words (truth_true c.if-value-eq1.true) c.word.ensures

pub returns-else-value-eq1 : goal.returns-else-value-eq1
returns-else-value-eq1 c = as_words (truth_false c.if-value-eq1.false) c.word-else-value-eq1.ensures
