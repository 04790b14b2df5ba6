-- `spellings::output::Output::digits` meets its contract.
-- Assumes nothing.
use native.Mathlib.Omega.{arith}
use mathlib.Core.List.{[], append-nil}
use Prim.Native.Nat.{suc}
use Rattle.spellings.proofs.DigitLaws.{digits_are}
use Rattle.spellings.proofs.output.Output.digits.Goals as goal

pub returns : goal.returns
returns c = rw (digits_are (suc c.args.n) c.args.n [] (omega arith) (omega (arith, c.ranges.n)), append-nil) (rw (c.as_bytes.ensures.value, c.format.ensures.text) at c.write.ensures)
