-- The numbers of questions by kind (document 02, W-202: "a checkbox answers ..", "a goto ..", "a number no question bears").
-- Assumes nothing.
use Rattle.std.specs.Prelude.{ℕ, ◌<◌, ◌≡◌, Bool, true, cond, List, [], ◌∷◌, ◌++◌, eqb, get_or}
use Rattle.numbers.specs.Numbers.{empty_map, with_all_used}
use Rattle.rows.specs.Codes as code
use Rattle.rows.specs.Columns as column
use Rattle.rows.specs.Table.{row_at, cell_at}
use Rattle.rows.specs.Rows.{rows_from}

abbrev pub is_goto : ℕ → Bool
is_goto k = eqb k code.GOTO

abbrev pub is_checkbox : ℕ → Bool
is_checkbox k = eqb k code.CHECKBOX

-- the kinds of rows that a test holds of, by their codes
module _ (test : ℕ → Bool) where
  -- the own number of a row of these kinds
  unfoldable pub own_in : List ℕ → List ℕ
  own_in r = cond (test (get_or r column.CODE 0)) (get_or r column.OWN 0 ∷ []) []

  -- the own numbers of rows, in their order
  unfoldable pub owns_in : List (List ℕ) → List ℕ
  owns_in [] = []
  owns_in (r ∷ rs) = own_in r ++ owns_in rs

  -- of row i of a table, and of its first `count` rows
  abbrev pub own_at : List ℕ → ℕ → List ℕ
  own_at t i = own_in (row_at t i)

  abbrev pub table_owns : List ℕ → ℕ → List ℕ
  table_owns t count = owns_in (rows_from t 0 count)

  -- the map of these numbers alone
  abbrev pub kind_map : List ℕ → ℕ → List ℕ
  kind_map t count = with_all_used empty_map (table_owns t count)

  -- one of the first `count` rows is of these kinds, and k is its own number
  pub record Bears (t : List ℕ) (count k : ℕ) : Type 0 where
    pub row : ℕ
    pub inside : row < count
    pub kind : test (cell_at t row column.CODE) ≡ true
    pub own : cell_at t row column.OWN ≡ k
