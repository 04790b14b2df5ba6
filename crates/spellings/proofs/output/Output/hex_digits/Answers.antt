-- `spellings::output::Output::hex_digits` meets its contract. The loop's invariant: the digits from the k-th on are left.
-- Assumes nothing.
use native.Mathlib.Omega.{arith}
use Prim.Native.Nat.{◌-◌}
use mathlib.Core.Path.{◌≡◌}
use Rattle.spellings.proofs.Printing.{partly_none, partly_more, partly_all}
use Rattle.spellings.proofs.DigitLaws.{hex_next, hex_none}
use Rattle.spellings.proofs.output.Output.hex_digits.Goals as goal

pub loop-k-init : goal.loop-k-init
loop-k-init c = let all : c.args.width - 0 ≡ c.args.width = omega arith in rw all (partly_none _)

pub loop-k-preserved : goal.loop-k-preserved
loop-k-preserved c = partly_more c.loop-k.invariant (hex_next c.args.width c.args.n c.loop-k.k c.loop-k-test.true c.hex_digit.ensures) c.put.ensures

pub returns : goal.returns
returns c = partly_all c.loop-k.invariant (hex_none c.args.width c.args.n c.loop-k.k c.loop-k-test.false)
