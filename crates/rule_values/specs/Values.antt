-- The rows of rules, and the values that are found rule after rule (document 02, W-202).
-- Assumes nothing.
use Rattle.std.specs.Prelude.{ℕ, zero, suc, cond, List, [], ◌∷◌, eqb, get_or, set}
use Rattle.rows.specs.Codes as code
use Rattle.rows.specs.Columns as column
use Rattle.rows.specs.Table.{cell_at}
use Rattle.operators.specs.declared.Scalar.{Scalar}
use Rattle.stored.specs.Stored.{with_value}
use Rattle.expression_rows.specs.Ends.{value_after}

-- ---- the rows of rules in the table t, by the rules' numbers

-- the places with row i for that of its rule, if it is a rule's
unfoldable pub placed_row : List ℕ → List ℕ → ℕ → List ℕ
placed_row t places i = cond (eqb (cell_at t i column.CODE) code.RULE) (set places (cell_at t i column.OWN) i) places

-- and n rows from i on
unfoldable pub placed_rows : List ℕ → List ℕ → ℕ → ℕ → List ℕ
placed_rows t places i zero = places
placed_rows t places i (suc n) = placed_rows t (placed_row t places i) (suc i) n

-- ---- the values of rules

module _ (answers gotos checkboxes t : List ℕ) (count : ℕ) (places : List ℕ) where
  -- the values with that of rule k, by those that are there
  unfoldable pub with_rule : List Scalar → ℕ → List Scalar
  with_rule values k = with_value values k (value_after answers gotos checkboxes values t count (get_or places k 0))

  -- and of one rule after another
  unfoldable pub with_rules : List Scalar → List ℕ → List Scalar
  with_rules values [] = values
  with_rules values (k ∷ order) = with_rules (with_rule values k) order
