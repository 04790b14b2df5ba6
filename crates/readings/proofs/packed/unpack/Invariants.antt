-- `packed::unpack` meets its contract: what is unpacked and what is left make up the whole.
-- Assumes nothing.
use Prim.Native.Nat.{◌≤◌}
use mathlib.Core.Path.{◌≡◌}
use lib.ListN.{length}
use Rattle.readings.specs.Packed.{unpacked}
use Rattle.readings.proofs.UnpackLaws.{left}
use Rattle.readings.proofs.packed.unpack.Given as goal

abbrev pub invariant-loop-cell : goal.invariant-loop-cell
invariant-loop-cell l =
    (l.at ≤ length l.packed) × (l.cell-index ≤ length l.initial.cells) × (length l.cells ≡ length l.initial.cells) × (left l.packed l.cells l.at l.cell-index ≡ unpacked l.packed l.initial.cells)
