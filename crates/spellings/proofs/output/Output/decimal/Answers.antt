-- `spellings::output::Output::decimal` meets its contract.
-- Assumes nothing.
use Rattle.spellings.proofs.Printing.{word_written}
use Rattle.spellings.proofs.DigitLaws.{digits_gap}
use Rattle.spellings.proofs.output.Output.decimal.Goals as goal

pub returns : goal.returns
returns c = word_written c.digits.ensures c.put.ensures (digits_gap c.args.n)
