-- `spellings::output::Output::hex_digits` meets its contract. The loop's invariant: the digits from the k-th on are left.
-- Assumes nothing.
use Prim.Native.Nat.{◌-◌}
use Rattle.answers.specs.Text.{hex_digits}
use Rattle.spellings.proofs.Printing.{Partly}
use Rattle.spellings.proofs.output.Output.hex_digits.Given as goal

abbrev pub invariant-loop-k : goal.invariant-loop-k
invariant-loop-k l = Partly l.initial.self (hex_digits l.width l.n) l.self (hex_digits (l.width - l.k) l.n)
