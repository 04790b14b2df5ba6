-- `spellings::output::Output::rule_name` meets its contract.
-- Assumes nothing.
use native.Mathlib.Omega.{arith}
use Rattle.spellings.proofs.Printing.{written_then, word_written}
use Rattle.spellings.proofs.DigitLaws.{gap_space}
use Rattle.spellings.proofs.output.Output.rule_name.Goals as goal

pub returns : goal.returns
returns c = word_written (written_then c.put.ensures c.digits.ensures) c.put-2.ensures (gap_space 82 _ (λ e. omega arith))
