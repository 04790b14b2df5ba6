-- The value of what follows a row, by the code's tests.
use Prim.Native.Nat.{ℕ, suc, ◌+◌, ◌-◌, ◌≤◌}
use mathlib.Core.Path.{◌≡◌, sym, ap, ◌∙◌}
use mathlib.Core.List.{List}
use native.Mathlib.Numerals.{add-one}
use native.Mathlib.Omega.{arith}
use Rattle.operators.specs.declared.Scalar.{Scalar}
use Rattle.operators.specs.declared.Scalar.TheVariants.{Undefined}
use Rattle.evaluate.specs.Machine.{after_rows, evaluated}
use Rattle.evaluate.specs.Lent.{value_in}
use Rattle.laid.specs.Ends.{end_from}
use Rattle.laid.proofs.EndLaws.{end_none}
use Rattle.expression_rows.specs.Ends.{value_after}

module _ (answers gotos checkboxes : List ℕ) (rules : List Scalar) (t : List ℕ) where
  -- no rows have no value
  pub value_empty : (i : ℕ) → value_in answers gotos checkboxes rules t i i ≡ Undefined
  unfolding evaluated after_rows
  value_empty i = let z : i - i ≡ 0 = omega arith in rw z

  module _ (count row : ℕ) where
    -- a row past the first `count`
    pub after_past : count ≤ row → Undefined ≡ value_after answers gotos checkboxes rules t count row
    after_past h =
        sym (ap (value_in answers gotos checkboxes rules t (suc row)) (end_none t count (suc row) (omega arith)) ∙ value_empty (suc row))

    -- one of them, by what the code's calls give
    pub after_row_lem :
        {end : ℕ} {v : Scalar} → end ≡ end_from t count (row + 1) → v ≡ value_in answers gotos checkboxes rules t (row + 1) end
        → v ≡ value_after answers gotos checkboxes rules t count row
    after_row_lem e f =
        f
        ∙ ap (value_in answers gotos checkboxes rules t (row + 1)) e
        ∙ ap (λ (i : ℕ). value_in answers gotos checkboxes rules t i (end_from t count i)) (add-one row)
