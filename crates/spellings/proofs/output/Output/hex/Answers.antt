-- `spellings::output::Output::hex` meets its contract.
-- Assumes nothing.
use native.Mathlib.Omega.{arith}
use Rattle.spellings.proofs.Printing.{written_then, word_written}
use Rattle.spellings.proofs.DigitLaws.{gap_space}
use Rattle.spellings.proofs.output.Output.hex.Goals as goal

pub returns : goal.returns
returns c = word_written (written_then c.write.ensures c.hex_digits.ensures) c.put.ensures (gap_space 48 _ (λ e. omega arith))
