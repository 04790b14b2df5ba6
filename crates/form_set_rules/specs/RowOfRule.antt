-- The row of a rule in a table (document 01, Rows: rule 0x18, "rules count from 1").
-- Assumes nothing.
use Rattle.std.specs.Prelude.{ℕ, ◌<◌, ◌≡◌, List}
use Rattle.rows.specs.Codes as code
use Rattle.rows.specs.Columns as column
use Rattle.rows.specs.Table.{cell_at}

-- row i is that of rule k, and no other of the first `count` is
pub record RowOfRule (t : List ℕ) (count k i : ℕ) : Type 0 where
  pub inside : i < count
  pub code_is : cell_at t i column.CODE ≡ code.RULE
  pub own_is : cell_at t i column.OWN ≡ k
  pub only : (j : ℕ) → j < count → cell_at t j column.CODE ≡ code.RULE → cell_at t j column.OWN ≡ k → j ≡ i
