-- `values::decimal_at` meets its contract. The loop's invariant: the value so far fits, and with the digits from here on it is the whole value.
use mathlib.Core.Path.{◌≡◌}
use Prim.Native.Nat.{◌^◌, ◌<◌}
use lib.ListN.{drop}
use Rattle.lexemes.specs.Words.{word}
use Rattle.values.specs.Numbers.{value_from, fitted, value_at}
use Rattle.values.proofs.decimal_at.Given as goal

abbrev pub invariant-loop-i : goal.invariant-loop-i
invariant-loop-i l = (l.value < 2 ^ 64) × (value_at l.src l.at ≡ fitted (value_from 10 l.value (word (drop l.i l.src))))
