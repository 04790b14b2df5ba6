-- `spellings::numerals::hex_digit` meets its contract.
-- Assumes nothing.
use native.Mathlib.Omega.{arith}
use Rattle.spellings.proofs.DigitLaws.{hex_shifted, hex_past}
use Rattle.spellings.proofs.numerals.hex_digit.Goals as goal

pub returns-then-later-ge16 : goal.returns-then-later-ge16
returns-then-later-ge16 c = hex_past c.args.n c.args.later (omega (arith, c.ranges.n)) c.if-later-ge16.true

pub returns : goal.returns
returns c = hex_shifted c.args.n c.args.later
