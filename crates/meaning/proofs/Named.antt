-- What a meaning depends on.
-- Assumes nothing.
use Prim.Native.Nat.{ℕ}
use mathlib.Core.Path.{◌≡◌, refl, ◌∙◌}
use mathlib.Core.Bool.{true, or-true}
use mathlib.Core.List.{List, [], ◌∷◌, ◌++◌}
use borrow.Author.Tests.{eq-eqb}
use Rattle.numbers.specs.Numbers.{mem}
use Rattle.numbers.proofs.Lists.{mem_append}
use Rattle.operators.specs.declared.Scalar.{Scalar}
use Rattle.formulas.specs.Formula.{Formula, f_number, f_constant, f_question, f_rule, f_not, f_binary}
use Rattle.meaning.specs.Meaning.{meaning}
use Rattle.meaning.specs.References.{references, question_references}

-- two values for each number, the same for those of a list
abbrev pub Agree : List ℕ → (ℕ → Scalar) → (ℕ → Scalar) → Type 0
Agree l r s = (n : ℕ) → mem n l ≡ true → r n ≡ s n

module _ {r s : ℕ → Scalar} where
  agree_one : {n : ℕ} → Agree (n ∷ []) r s → r n ≡ s n
  unfolding mem
  agree_one {n} h = h n (rw (eq-eqb n n refl))

  agree_left : (l m : List ℕ) → Agree (l ++ m) r s → Agree l r s
  agree_left l m h n e = h n (mem_append n l m ∙ rw e)

  agree_right : (l m : List ℕ) → Agree (l ++ m) r s → Agree m r s
  agree_right l m h n e = h n (mem_append n l m ∙ rw (e, or-true (mem n l)))

-- only on the questions and the rules that the expression refers to: so rules can be evaluated once each, those first that others refer to
module _ {p q r s : ℕ → Scalar} where
  pub meaning_named : (e : Formula) → Agree (question_references e) p q → Agree (references e) r s → meaning p r e ≡ meaning q s e
  unfolding meaning references question_references
  meaning_named (f_number v) g h = refl
  meaning_named (f_constant c) g h = refl
  meaning_named (f_question n) g h = agree_one g
  meaning_named (f_rule n) g h = agree_one h
  meaning_named (f_not e) g h = rw (meaning_named e g h)
  meaning_named (f_binary o x y) g h =
      rw (
        meaning_named x (agree_left (question_references x) (question_references y) g) (agree_left (references x) (references y) h),
        meaning_named y (agree_right (question_references x) (question_references y) g) (agree_right (references x) (references y) h),
      )
