-- The halves of a cell of a draft row.
use Prim.Native.Nat.{ℕ, ◌<◌}
use mathlib.Core.Path.{◌≡◌}
use native.Mathlib.Omega.{arith}
use Rattle.rows.specs.Draft.{HALF, low_of, mark_of, with_mark}

pub low_with_mark : (low mark : ℕ) → low < HALF → low_of (with_mark low mark) ≡ low
low_with_mark low mark h = omega arith

pub mark_with_mark : (low mark : ℕ) → mark < HALF → mark_of (with_mark low mark) ≡ mark
mark_with_mark low mark h = omega arith
