-- A row by the names of its columns (document 01, "Rows").
use Rattle.std.specs.Prelude.{ℕ, List, [], ◌∷◌, set, replicate}
use Rattle.rows.specs.Columns.{ROW, NAME, PLACE}

-- a column, and the number that stands in it
pub data Entry : Type 0 where
  ◌≔◌ : ℕ → ℕ → Entry

infix 68 ◌≔◌
-- the row with these entries; a column without one is 0
abbrev pub filled : List Entry → List ℕ
filled [] = replicate ROW 0
filled (c ≔ v ∷ entries) = set (filled entries) c v

-- a row "but the two columns of places" (demand 2): with 0 in both
abbrev pub without_places : List ℕ → List ℕ
without_places r = set (set r NAME 0) PLACE 0
