-- A numeric's size and display, and the number that column 12 holds of them: each gives the other.
-- Assumes nothing.
use Prim.Native.Nat.{ℕ, ◌<◌}
use mathlib.Core.Path.{◌≡◌, refl}
use native.Mathlib.Omega.{arith}
use Rattle.rows.specs.Sizes.{NO_SIZE, UINT_DEC, size_and_display, size_of, display_of}

module _ (size display : ℕ) (h : display < 4) where
  pub size_of_lem : size_of (size_and_display size display) ≡ size
  size_of_lem = omega arith

  pub display_of_lem : display_of (size_and_display size display) ≡ display
  display_of_lem = omega arith

pub size_and_display_lem : (n : ℕ) → size_and_display (size_of n) (display_of n) ≡ n
size_and_display_lem n = omega arith

-- what a numeric has that names neither
pub neither_named : size_and_display NO_SIZE UINT_DEC ≡ 33
neither_named = refl
