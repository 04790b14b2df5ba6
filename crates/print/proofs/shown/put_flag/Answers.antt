-- `print::shown::put_flag` meets its contract.
-- Assumes nothing.
use Rattle.spellings.proofs.Printing.{printed_none, printed_then}
use Rattle.print.proofs.shown.put_flag.Goals as goal

pub returns-then-there : goal.returns-then-there
returns-then-there c = rw c.if-there.true (printed_then c.word_if.ensures c.word.ensures)

pub returns-else-there : goal.returns-else-there
returns-else-there c = rw c.if-there.false printed_none
