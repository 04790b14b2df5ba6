-- The stack of values, row by row; and what the rows of an expression leave on it.
use Prim.Native.Nat.{ℕ, suc, ◌+◌, ◌-◌, ◌≤◌, ◌<◌}
use native.Mathlib.Omega.{arith}
use mathlib.Core.Path.{◌≡◌, refl, sym, ap, ◌∙◌}
use mathlib.Core.Bool.{true, false}
use mathlib.Core.List.{List, ◌∷◌}
use lib.ListN.{length}
use borrow.Author.Tests.{lt-ltb, eq-eqb, ne_eqb}
use Rattle.rows.specs.Codes as code
use Rattle.rows.specs.Columns as column
use Rattle.rows.specs.Table.{cell_at}
use Rattle.operators.specs.declared.Scalar.{Scalar}
use Rattle.operators.specs.declared.Scalar.TheVariants.{Number}
use Rattle.operators.specs.Values.{operations, combined, negated, constant_of}
use Rattle.answers.specs.Expression.{operator_code, Constant, constant_code, true', false', zero', one', ones', undefined'}
use Rattle.formulas.specs.Formula.{Formula, f_number, f_constant, f_question, f_rule, f_not, f_binary}
use Rattle.formulas.specs.Need.{need}
use Rattle.meaning.specs.Meaning.{meaning}
use Rattle.evaluate.specs.Spells.{Spells, spells_number, spells_constant, spells_question, spells_rule, spells_not, spells_binary}
use Rattle.evaluate.specs.Machine.{is_binary, top, under, pushed, stepped, operand_value, after_row, after_rows}
use Rattle.evaluate.proofs.CodeLaws.{operator_binary, operator_not}

-- ---- a row, by the tests of its code

pushed_inside : (room : ℕ) (v : Scalar) (σ : List Scalar) → length σ < room → pushed room v σ ≡ v ∷ σ
unfolding pushed
pushed_inside room v σ h = rw (lt-ltb (length σ) room h)

module _ (room k : ℕ) (v : Scalar) (σ : List Scalar) where
  pub step_not : k ≡ code.NOT → stepped room k v σ ≡ pushed room (negated (top σ)) (under σ)
  unfolding stepped
  step_not e = rw (eq-eqb k code.NOT e)

  pub step_binary :
      (k ≡ code.NOT → ⊥) → is_binary k ≡ true → stepped room k v σ ≡ pushed room (combined k (top (under σ)) (top σ)) (under (under σ))
  unfolding stepped
  step_binary d e = rw (ne_eqb k code.NOT d, e)

  pub step_operand : (k ≡ code.NOT → ⊥) → is_binary k ≡ false → stepped room k v σ ≡ pushed room v σ
  unfolding stepped
  step_operand d e = rw (ne_eqb k code.NOT d, e)

-- ---- an operand's code, and its value

record Operand (questions rules : ℕ → Scalar) (k a : ℕ) (v : Scalar) : Type 0 where
  pub no_not : k ≡ code.NOT → ⊥
  pub no_binary : is_binary k ≡ false
  pub is : operand_value questions rules k a ≡ v

module _ (questions rules : ℕ → Scalar) where
  number_operand : (a : ℕ) → Operand questions rules code.NUMBER a (Number a)
  unfolding is_binary operations code.member operand_value
  number_operand a = record { no_not = λ e. omega arith; no_binary = refl; is = refl }

  question_operand : (a : ℕ) → Operand questions rules code.QUESTION_REF a (questions a)
  unfolding is_binary operations code.member operand_value
  question_operand a = record { no_not = λ e. omega arith; no_binary = refl; is = refl }

  rule_operand : (a : ℕ) → Operand questions rules code.RULE_REF a (rules a)
  unfolding is_binary operations code.member operand_value
  rule_operand a = record { no_not = λ e. omega arith; no_binary = refl; is = refl }

  constant_operand : (c : Constant) (a : ℕ) → Operand questions rules (constant_code c) a (constant_of (constant_code c))
  unfolding is_binary operations code.member operand_value
  constant_operand true' a = record { no_not = λ e. omega arith; no_binary = refl; is = refl }
  constant_operand false' a = record { no_not = λ e. omega arith; no_binary = refl; is = refl }
  constant_operand zero' a = record { no_not = λ e. omega arith; no_binary = refl; is = refl }
  constant_operand one' a = record { no_not = λ e. omega arith; no_binary = refl; is = refl }
  constant_operand ones' a = record { no_not = λ e. omega arith; no_binary = refl; is = refl }
  constant_operand undefined' a = record { no_not = λ e. omega arith; no_binary = refl; is = refl }

-- ---- the rows of an expression

need_some : (e : Formula) → 0 < need e
unfolding need
need_some (f_number v) = omega arith
need_some (f_constant c) = omega arith
need_some (f_question n) = omega arith
need_some (f_rule n) = omega arith
need_some (f_not e) = need_some e
need_some (f_binary o l r) = omega (arith, need_some l)

grows : {t : List ℕ} {i j : ℕ} {e : Formula} → Spells t i e j → i < j
grows (spells_number k a) = omega arith
grows (spells_constant c k) = omega arith
grows (spells_question k a) = omega arith
grows (spells_rule k a) = omega arith
grows (spells_not s k) = omega (arith, grows s)
grows (spells_binary o s u k) = omega (arith, grows s, grows u)

module _ (questions rules : ℕ → Scalar) (room : ℕ) (t : List ℕ) where
  -- the stack before row `end`, from that before row i
  abbrev pub before : ℕ → ℕ → List Scalar → List Scalar
  before i end σ = after_rows questions rules room t i (end - i) σ

  abbrev after : ℕ → List Scalar → List Scalar
  after i σ = after_row questions rules room t i σ

  pub before_row : (i end : ℕ) (σ : List Scalar) → i < end → before i end σ ≡ before (suc i) end (after i σ)
  unfolding after_rows
  before_row i end σ h = let z : end - i ≡ suc (end - suc i) = omega arith in rw z

  pub before_none : (i end : ℕ) (σ : List Scalar) → end ≤ i → before i end σ ≡ σ
  unfolding after_rows
  before_none i end σ h = let z : end - i ≡ 0 = omega arith in rw z

  -- the value of row i as an operand
  abbrev own : ℕ → Scalar
  own i = operand_value questions rules (cell_at t i column.CODE) (cell_at t i column.A)

  -- an operand, by its code and its column
  operand_more :
      (i end : ℕ) (σ : List Scalar) {k a : ℕ} {v : Scalar}
      → i < end → length σ < room → cell_at t i column.CODE ≡ k → cell_at t i column.A ≡ a → Operand questions rules k a v
      → before i end σ ≡ before (suc i) end (v ∷ σ)
  operand_more i end σ {k} {a} {v} h l e f p =
      let q : Operand questions rules (cell_at t i column.CODE) (cell_at t i column.A) v = rw (e, f) p in
      before_row i end σ h
      ∙ ap (before (suc i) end)
      (step_operand room (cell_at t i column.CODE) (own i) σ q.no_not q.no_binary ∙ ap (λ x. pushed room x σ) q.is ∙ pushed_inside room v σ l)

  -- the rows of an expression put its meaning on top of any stack that leaves room for it
  pub meant :
      {i j : ℕ} {e : Formula} → Spells t i e j → (end : ℕ) (σ : List Scalar) → j ≤ end → length σ + need e ≤ room
      → before i end σ ≡ before j end (meaning questions rules e ∷ σ)
  unfolding need meaning
  meant (spells_number {i = i} {v = v} k a) end σ h l = operand_more i end σ h (omega arith) k a (number_operand questions rules v)
  meant (spells_constant {i = i} c k) end σ h l = operand_more i end σ h (omega arith) k refl (constant_operand questions rules c (cell_at t i column.A))
  meant (spells_question {i = i} {n = n} k a) end σ h l = operand_more i end σ h (omega arith) k a (question_operand questions rules n)
  meant (spells_rule {i = i} {n = n} k a) end σ h l = operand_more i end σ h (omega arith) k a (rule_operand questions rules n)
  meant (spells_not {j = j} {e = e} s k) end σ h l =
      let m = meaning questions rules e in
      meant s end σ (omega arith) l
      ∙ before_row j end (m ∷ σ) h
      ∙ ap (before (suc j) end)
      (step_not room (cell_at t j column.CODE) (own j) (m ∷ σ) k ∙ pushed_inside room (negated m) σ (omega (arith, need_some e)))
  meant (spells_binary {k = k} {l = x} {r = y} o s u c) end σ h l =
      let m = meaning questions rules x in
      let n = meaning questions rules y in
      let right : suc (length σ) + need y ≤ room = omega arith in
      meant s end σ (omega (arith, grows u)) (omega arith)
      ∙ meant u end (m ∷ σ) (omega arith) right
      ∙ before_row k end (n ∷ m ∷ σ) h
      ∙ ap (before (suc k) end)
      (step_binary room (cell_at t k column.CODE) (own k) (n ∷ m ∷ σ) (λ e. operator_not o (sym c ∙ e)) (ap is_binary c ∙ operator_binary o)
      ∙ ap (λ z. pushed room (combined z m n) σ) c
      ∙ pushed_inside room (combined (operator_code o) m n) σ (omega (arith, need_some y)))
