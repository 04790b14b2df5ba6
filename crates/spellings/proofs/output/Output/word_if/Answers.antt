-- `spellings::output::Output::word_if` meets its contract.
-- Assumes nothing.
use Rattle.spellings.proofs.Printing.{printed_none}
use Rattle.spellings.proofs.output.Output.word_if.Goals as goal

pub returns-else-there : goal.returns-else-there
returns-else-there c = rw c.if-there.false printed_none
