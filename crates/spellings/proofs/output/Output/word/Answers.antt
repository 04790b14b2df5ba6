-- `spellings::output::Output::word` meets its contract.
-- Assumes nothing.
use Rattle.spellings.proofs.Printing.{words_written}
use Rattle.spellings.proofs.output.Output.word.Goals as goal

pub returns : goal.returns
returns c = words_written (rw c.spelling.ensures at c.write.ensures)
