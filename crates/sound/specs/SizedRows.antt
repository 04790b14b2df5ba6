-- A row of an accepted source, as document 02's W-204 has it: what column 12 holds, and what a numeric's numbers keep to by it. The words in quotes are
-- W-204's. Assumes nothing.
use Rattle.std.specs.Prelude.{ℕ, ◌≤◌, ◌<◌, ◌≡◌, ◌≢◌, Bool, true, false, List, [], ◌∷◌, eqb, get_or}
use Rattle.rows.specs.Codes.{NUMERIC}
use Rattle.rows.specs.Columns as column
use Rattle.rows.specs.Flags.{HAS_DEFAULT, is_set}
use Rattle.rows.specs.Sizes.{INT_DEC, size_of, display_of}
use Rattle.ll1.specs.ParseTable.{member}
use Rattle.sizes.specs.Sizes as sizes

-- "`NUMERIC_SIZE_1`, `_2`, `_4`, `_8`"
abbrev pub sizes_named : List ℕ
sizes_named = 1 ∷ 2 ∷ 4 ∷ 8 ∷ []

-- the size and the display that a numeric's row holds: "column 12 holds size times 4 plus 0, 1 or 2 for the display"
abbrev pub size : List ℕ → ℕ
size r = size_of (get_or r column.SIZE 0)

abbrev pub display : List ℕ → ℕ
display r = display_of (get_or r column.SIZE 0)

-- x is below y, as two numbers of the row: "For `DISPLAY_INT_DEC` .. the order is the signed one"
abbrev pub below : List ℕ → ℕ → ℕ → Bool
below r x y = sizes.below (size r) (eqb (display r) INT_DEC) x y

-- a numeric's row
pub record SizedRow (r : List ℕ) : Type 0 where
  -- "Numerics may name one of `NUMERIC_SIZE_1`, `_2`, `_4`, `_8`
  pub one_of_sizes : member (size r) sizes_named ≡ true
  -- and one of `DISPLAY_INT_DEC`, `DISPLAY_UINT_DEC`, `DISPLAY_UINT_HEX`"
  pub one_of_displays : display r ≤ 2
  -- "Minimum, maximum, step and default must fit the size."
  pub minimum : get_or r column.A 0 < sizes.modulus (size r)
  pub maximum : get_or r column.B 0 < sizes.modulus (size r)
  pub step : get_or r column.C 0 < sizes.modulus (size r)
  pub default : get_or r column.D 0 < sizes.modulus (size r)
  -- refusal "12 in the signed order" is not given: maximum is not below minimum
  pub ordered : below r (get_or r column.B 0) (get_or r column.A 0) ≡ false
  -- nor is a written default below minimum or above maximum
  pub from_minimum : is_set HAS_DEFAULT (get_or r column.FLAGS 0) ≡ true → below r (get_or r column.D 0) (get_or r column.A 0) ≡ false
  pub to_maximum : is_set HAS_DEFAULT (get_or r column.FLAGS 0) ≡ true → below r (get_or r column.B 0) (get_or r column.D 0) ≡ false

-- a row: column 12 "holds size times 4 plus 0, 1 or 2 for the display .., and is 0 for other rows"
pub record ColumnTwelve (r : List ℕ) : Type 0 where
  pub numeric : get_or r column.CODE 0 ≡ NUMERIC → SizedRow r
  pub other : get_or r column.CODE 0 ≢ NUMERIC → get_or r column.SIZE 0 ≡ 0
