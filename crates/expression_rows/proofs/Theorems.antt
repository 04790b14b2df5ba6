-- The expression that follows a row, where its rows are those of an expression: they end where it ends, and have its meaning.
-- Assumes nothing.
use Prim.Native.Nat.{ℕ, suc, ◌≤◌, ◌<◌}
use mathlib.Core.Path.{◌≡◌, ap, ◌∙◌}
use mathlib.Core.List.{List}
use native.Mathlib.Omega.{arith}
use Rattle.operators.specs.declared.Scalar.{Scalar}
use Rattle.operators.specs.declared.Scalar.TheVariants.{Undefined}
use Rattle.stored.specs.Stored.{value_at}
use Rattle.saved_answers.specs.Search.{question_value}
use Rattle.formulas.specs.Formula.{Formula}
use Rattle.formulas.specs.Need.{need}
use Rattle.laid.specs.Laid.{Stretch}
use Rattle.meaning.specs.Meaning.{meaning}
use Rattle.evaluate.specs.Machine.{ROOM}
use Rattle.evaluate.specs.Spells.{Spells}
use Rattle.evaluate.specs.Lent.{value_in}
use Rattle.evaluate.proofs.Theorems.{evaluated_meaning}
use Rattle.expression_rows.specs.Ends.{value_after}
use Rattle.laid.proofs.EndLaws.{end_stretch}
use Rattle.expression_rows.proofs.ValueLaws.{value_empty}

-- the expression after row i: its rows go up to before j
module _ (answers gotos checkboxes : List ℕ) (rules : List Scalar) (t : List ℕ) (count i j : ℕ) (inside : i < count) (stretch : Stretch t count (suc i) j) where
  pub after_spelled :
      {e : Formula} → Spells t (suc i) e j → need e ≤ ROOM
      → value_after answers gotos checkboxes rules t count i ≡ meaning (question_value answers gotos checkboxes) (value_at rules) e
  after_spelled s h =
      ap (value_in answers gotos checkboxes rules t (suc i)) (end_stretch t count (suc i) j (omega arith) stretch)
      ∙ evaluated_meaning (question_value answers gotos checkboxes) (value_at rules) s h

  -- where there is none
  pub after_none : j ≡ suc i → value_after answers gotos checkboxes rules t count i ≡ Undefined
  after_none e =
      ap (value_in answers gotos checkboxes rules t (suc i)) (end_stretch t count (suc i) j (omega arith) stretch ∙ e)
      ∙ value_empty answers gotos checkboxes rules t (suc i)
