-- An operand, a step and the loop over the rows, by the code's tests and what its calls give.
use Prim.Native.Nat.{ℕ, suc, ◌+◌, ◌≤◌, ◌<◌}
use native.Mathlib.Omega.{arith}
use mathlib.Core.Path.{◌≡◌, sym, ap, ap₂, ◌∙◌}
use mathlib.Core.Bool.{Bool, true, false, cond}
use mathlib.Core.List.{List, [], ◌∷◌}
use lib.Dec.{eqb}
use lib.ListN.{length}
use borrow.Author.Tests.{eq-eqb, ne_eqb}
use Rattle.rows.specs.Codes as code
use Rattle.rows.specs.Columns as column
use Rattle.rows.specs.Table.{cell_at}
use Rattle.operators.specs.declared.Scalar.{Scalar}
use Rattle.operators.specs.declared.Scalar.TheVariants.{Number}
use Rattle.operators.specs.Values.{combined, negated, constant_of}
use Rattle.evaluate.specs.Machine.{ROOM, is_binary, top, under, pushed, stepped, operand_value, after_row, evaluated}
use Rattle.evaluate.proofs.MachineLaws.{step_not, step_binary, step_operand, before, before_row, before_none}

-- ---- an operand

module _ (questions rules : ℕ → Scalar) (k a : ℕ) where
  pub operand_number_lem : k ≡ code.NUMBER → Number a ≡ operand_value questions rules k a
  unfolding operand_value
  operand_number_lem e = rw (eq-eqb k code.NUMBER e)

  module _ (no_number : k ≡ code.NUMBER → ⊥) where
    pub operand_question : k ≡ code.QUESTION_REF → questions a ≡ operand_value questions rules k a
    unfolding operand_value
    operand_question e = rw (ne_eqb k code.NUMBER no_number, eq-eqb k code.QUESTION_REF e)

    module _ (no_question : k ≡ code.QUESTION_REF → ⊥) where
      pub operand_rule : k ≡ code.RULE_REF → rules a ≡ operand_value questions rules k a
      unfolding operand_value
      operand_rule e = rw (ne_eqb k code.NUMBER no_number, ne_eqb k code.QUESTION_REF no_question, eq-eqb k code.RULE_REF e)

      pub operand_constant : (k ≡ code.RULE_REF → ⊥) → constant_of k ≡ operand_value questions rules k a
      unfolding operand_value
      operand_constant e = rw (ne_eqb k code.NUMBER no_number, ne_eqb k code.QUESTION_REF no_question, ne_eqb k code.RULE_REF e)

-- ---- a row of code k on the stack σ: v is its value as an operand, and σ' the stack after it

module _ (σ : List Scalar) (k : ℕ) (v : Scalar) (σ' : List Scalar) where
  -- n is what NOT makes of x, and σ₁ what is under x
  pub code_not :
      (n x : Scalar) (σ₁ : List Scalar) → k ≡ code.NOT → x ≡ top σ → σ₁ ≡ under σ → n ≡ negated x → σ' ≡ pushed ROOM n σ₁
      → σ' ≡ stepped ROOM k v σ
  code_not n x σ₁ e p q f g = g ∙ ap₂ (pushed ROOM) (f ∙ ap negated p) q ∙ sym (step_not ROOM k v σ e)

  -- n is what the operator makes of x and y; σ₁ is what is under y, and σ₂ under x; b says that it is an operator
  pub code_binary :
      (b : Bool) (n x y : Scalar) (σ₁ σ₂ : List Scalar) → (k ≡ code.NOT → ⊥) → b ≡ true → b ≡ is_binary k
      → y ≡ top σ → σ₁ ≡ under σ → x ≡ top σ₁ → σ₂ ≡ under σ₁ → n ≡ combined k x y → σ' ≡ pushed ROOM n σ₂
      → σ' ≡ stepped ROOM k v σ
  code_binary b n x y σ₁ σ₂ d t e p q r l f g =
      g
      ∙ ap₂ (pushed ROOM) (f ∙ ap₂ (combined k) (r ∙ ap top q) p) (l ∙ ap under q)
      ∙ sym (step_binary ROOM k v σ d (sym e ∙ t))

  pub code_operand : (b : Bool) → (k ≡ code.NOT → ⊥) → b ≡ false → b ≡ is_binary k → σ' ≡ pushed ROOM v σ → σ' ≡ stepped ROOM k v σ
  code_operand b d t e g = g ∙ sym (step_operand ROOM k v σ d (sym e ∙ t))

-- a row leaves at most one value more
under_few : (σ : List Scalar) → length (under σ) ≤ length σ
under_few [] = omega arith
under_few (v ∷ σ) = omega arith

pub stepped_few : (room k : ℕ) (v : Scalar) (σ : List Scalar) → length (stepped room k v σ) ≤ length σ + 1
unfolding stepped pushed
stepped_few room k v σ = go (eqb k code.NOT) (is_binary k)
  where
    go :
        (a b : Bool)
        → length (cond a (pushed room (negated (top σ)) (under σ))
        (cond b (pushed room (combined k (top (under σ)) (top σ)) (under (under σ))) (pushed room v σ))) ≤ length σ + 1
    go true b = omega (arith, under_few σ)
    go false true = omega (arith, under_few σ, under_few (under σ))
    go false false = omega arith

-- ---- the loop: the rows from here on make of this stack what all rows make of the empty one

module _ (questions rules : ℕ → Scalar) (most : ℕ) (t : List ℕ) where
  pub code_row :
      (row end : ℕ) (σ σ' all : List Scalar) (k a : ℕ) (v : Scalar) → row < end
      → k ≡ cell_at t row column.CODE → a ≡ cell_at t row column.A → v ≡ operand_value questions rules k a → σ' ≡ stepped most k v σ
      → before questions rules most t row end σ ≡ all → before questions rules most t (row + 1) end σ' ≡ all
  code_row row end σ σ' all k a v h p q r e i =
      let z : row + 1 ≡ suc row = omega arith in
      let here = cell_at t row column.CODE in
      let value : v ≡ operand_value questions rules here (cell_at t row column.A) = r ∙ ap₂ (operand_value questions rules) p q in
      let next : σ' ≡ after_row questions rules most t row σ =
      e ∙ ap (λ n. stepped most n v σ) p ∙ ap (λ x. stepped most here x σ) value in
      ap (λ n. before questions rules most t n end σ') z
      ∙ ap (before questions rules most t (suc row) end) next
      ∙ sym (before_row questions rules most t row end σ h)
      ∙ i

  pub code_ends :
      (first row end : ℕ) (σ : List Scalar) → end ≤ row → before questions rules most t row end σ ≡ before questions rules most t first end []
      → top σ ≡ evaluated questions rules most t first end
  unfolding evaluated
  code_ends first row end σ h i = ap top (sym (before_none questions rules most t row end σ h) ∙ i)
