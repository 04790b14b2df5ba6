-- Demand 2 in document 01's own terms: what the text of a resolver must be.
-- Assumes nothing.
use Rattle.std.specs.Prelude.{ℕ, ◌-◌, ◌*◌, ◌≡◌, List, map, drop, replicate}
use Rattle.rows.specs.Columns.{ROW}
use Rattle.rows.specs.Cells.{without_places}
use Rattle.rows.specs.Rows.{rows_from}
use Rattle.answers.specs.WholeAnswer.{read_answer, rows_of}

-- rows "but the two columns of places"
abbrev pub besides_places : List (List ℕ) → List (List ℕ)
besides_places rows = map without_places rows

-- the text that a resolver prints of the source s, with a table of n numbers lent
pub record ReadsAgain (text : List ℕ → List ℕ) (s : List ℕ) (n : ℕ) : Type 0 where
  -- "The resolved text reads again": it is accepted, with as many rows and free numbers
  pub same_answer : read_answer (text s) n ≡ read_answer s n
  -- "to the same rows (but the two columns of places)"
  pub same_rows : besides_places (rows_of (text s)) ≡ besides_places (rows_of s)
  -- "resolving it again changes no byte"
  pub same_text : text (text s) ≡ text s

-- two tables of n numbers: so many rows, the same in both "(but the two columns of places)", and zeros past them
pub record SameTables (n rows : ℕ) (t t' : List ℕ) : Type 0 where
  pub same_rows : besides_places (rows_from t 0 rows) ≡ besides_places (rows_from t' 0 rows)
  pub zeros : drop (rows * ROW) t ≡ replicate (n - rows * ROW) 0
  pub zeros' : drop (rows * ROW) t' ≡ replicate (n - rows * ROW) 0
