-- `spellings::output::Output::word_before` meets its contract.
-- Assumes nothing.
use Rattle.spellings.proofs.Printing.{words_before}
use Rattle.spellings.proofs.output.Output.word_before.Goals as goal

pub returns : goal.returns
returns c = words_before (rw c.spelling.ensures at c.write_before.ensures)
