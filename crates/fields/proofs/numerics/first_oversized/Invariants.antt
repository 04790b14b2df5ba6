-- `fields::numerics::first_oversized` meets its contract. The loop's invariant: the numbers before its own fit.
-- Assumes nothing.
use Prim.Native.Nat.{ℕ, ◌+◌, ◌<◌}
use mathlib.Core.Path.{◌≡◌}
use mathlib.Core.Bool.{false}
use Rattle.fields.specs.Phrases.{kept}
use Rattle.fields.specs.Sizes.{oversized}
use Rattle.fields.proofs.numerics.first_oversized.Given as goal

abbrev pub invariant-loop-mark : goal.invariant-loop-mark
invariant-loop-mark l = (j : ℕ) → j < l.mark-index → oversized l.src l.size (kept l.fn.k (5 + j)) ≡ false
