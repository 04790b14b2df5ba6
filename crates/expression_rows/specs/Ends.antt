-- The rows of the expression that follows a row: "a condition's or rule's expression rows follow it at once" (document 01, Rows).
-- Assumes nothing.
use Rattle.std.specs.Prelude.{ℕ, suc, List}
use Rattle.operators.specs.declared.Scalar.{Scalar}
use Rattle.laid.specs.Ends.{end_from}
use Rattle.evaluate.specs.Lent.{value_in}

-- the value of the expression that follows row i, one of the first `count`; undefined where none follows
abbrev pub value_after : (answers gotos checkboxes : List ℕ) (rules : List Scalar) (t : List ℕ) (count i : ℕ) → Scalar
value_after answers gotos checkboxes rules t count i = value_in answers gotos checkboxes rules t (suc i) (end_from t count (suc i))
