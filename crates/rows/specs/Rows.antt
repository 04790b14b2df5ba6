-- Lists of rows, and the table that holds them.
use Rattle.std.specs.Prelude.{ℕ, zero, suc, ◌+◌, ◌-◌, ◌≡◌, length, replicate}
use mathlib.Core.List.{List, [], ◌∷◌, ◌++◌, flatten}
use Rattle.rows.specs.Columns.{ROW}
use Rattle.rows.specs.Table.{row_at, with_row}

-- each has ROW numbers: document 01's twelve ("Rows"), and "Rows grow to thirteen numbers" (document 02, W-204)
pub data AreRows : List (List ℕ) → Type 0 where
  no_rows : AreRows []
  add_row : {r : List ℕ} {rs : List (List ℕ)} → length r ≡ ROW → AreRows rs → AreRows (r ∷ rs)

-- the m rows of a table from row n on
unfoldable pub rows_from : List ℕ → ℕ → ℕ → List (List ℕ)
rows_from t n zero = []
rows_from t n (suc m) = row_at t n ∷ rows_from t (n + 1) m

-- the table with rows from row n on, as far as whole rows fit
unfoldable pub put : List ℕ → ℕ → List (List ℕ) → List ℕ
put t n [] = t
put t n (r ∷ rs) = put (with_row t n r) (n + 1) rs

-- the table of n numbers that holds rows and then zeros: "After acceptance the table past the rows is 0" (document 01, "Refusal numbers")
unfoldable pub laid : List (List ℕ) → ℕ → List ℕ
laid rs n = flatten rs ++ replicate (n - length (flatten rs)) 0
