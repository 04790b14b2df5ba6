-- The bytes of a table's rows, in two passes over them (document 02, W-202).
-- Assumes nothing.
use Rattle.std.specs.Prelude.{ℕ, zero, suc, cond, ◌&&◌, List, [], ◌∷◌, ◌++◌, get_or}
use Rattle.std.specs.Int.Bits.{bit_or}
use Rattle.rows.specs.Columns as column
use Rattle.rows.specs.Table.{cell_at}
use Rattle.operators.specs.declared.Scalar.{Scalar}
use Rattle.expression_rows.specs.Ends.{value_after}
use Rattle.screen.specs.Kinds.{is_item, hides, greys, is_true, byte}

-- ---- the first pass: the byte of every row says what the conditions round the statements in it do to them

-- what a condition of this code and value does to them; 0 of any other row
abbrev pub own_flags : ℕ → Scalar → ℕ
own_flags code v = byte (hides code && is_true v) (greys code && is_true v)

-- of the table t, where `value` gives the value of the expression that follows a row
module _ (t : List ℕ) (value : ℕ → Scalar) where
  -- in row i: as in the row that it stands in, by the bytes of the rows before it, and what it does itself
  unfoldable pub flags_in : List ℕ → ℕ → ℕ
  flags_in before i = bit_or (get_or before (cell_at t i column.PARENT) 0) (own_flags (cell_at t i column.CODE) (value i))

  -- in each of the first n rows
  unfoldable pub all_flags : ℕ → List ℕ
  all_flags zero = []
  all_flags (suc n) = let before = all_flags n in before ++ (flags_in before n ∷ [])

-- ---- the second pass: of the rows from i on only the items keep their bytes

unfoldable pub items_only : List ℕ → ℕ → List ℕ → List ℕ
items_only t i [] = []
items_only t i (b ∷ bytes) = cond (is_item (cell_at t i column.CODE)) b 0 ∷ items_only t (suc i) bytes

-- ---- both, over the first `count` rows

unfoldable pub shown : (answers gotos checkboxes : List ℕ) (rules : List Scalar) (t : List ℕ) (count : ℕ) → List ℕ
shown answers gotos checkboxes rules t count = items_only t 0 (all_flags t (value_after answers gotos checkboxes rules t count) count)
