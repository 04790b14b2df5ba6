-- `values::value_in` meets its contract. The loop's invariant: the value so far fits, and with the digits from here on it is the whole value.
use mathlib.Core.Path.{◌≡◌}
use Prim.Native.Nat.{◌^◌, ◌<◌}
use lib.ListN.{drop}
use Rattle.values.specs.Numbers.{value_from}
use Rattle.values.proofs.value_in.Given as goal

abbrev pub invariant-loop-b : goal.invariant-loop-b
invariant-loop-b l = (l.value < 2 ^ 64) × (value_from l.base 0 l.w ≡ value_from l.base l.value (drop l.b-index l.w))
