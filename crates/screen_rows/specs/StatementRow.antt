-- The row of a statement in a table, and the rows of its expression (document 01, Rows).
-- Assumes nothing.
use Rattle.std.specs.Prelude.{ℕ, suc, ◌<◌, ◌≡◌, List}
use Rattle.std.proofs.Math.Option.{Option, some}
use Rattle.rows.specs.Columns as column
use Rattle.rows.specs.Table.{cell_at}
use Rattle.formulas.specs.Formula.{Formula}
use Rattle.laid.specs.Laid.{Stretch}
use Rattle.evaluate.specs.Spells.{Spells}

module _ (t : List ℕ) (count : ℕ) where
  -- after the row stand those of an expression, and no more
  pub record ExpressionAfter (row : ℕ) (e : Formula) : Type 0 where
    pub end : ℕ
    pub stretch : Stretch t count (suc row) end
    pub spells : Spells t (suc row) e end

  -- the row, one of the first `count`, is that of a statement of this code, with this expression if it has one
  pub record StatementRow (row code : ℕ) (e : Option Formula) : Type 0 where
    pub inside : row < count
    pub code_is : cell_at t row column.CODE ≡ code
    pub expression : (x : Formula) → e ≡ some x → ExpressionAfter row x
