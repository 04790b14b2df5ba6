-- The walk over the answers, by the answers' indexes.
use Prim.Native.Nat.{ℕ, zero, suc, ◌+◌, ◌*◌, ◌<◌}
use native.Mathlib.Omega.{arith}
use mathlib.Core.Path.{◌≡◌, refl, sym, ◌∙◌}
use mathlib.Core.List.{List, [], ◌∷◌}
use mathlib.Core.Option.{none, some}
use borrow.Author.Tests.{eq-eqb, ne_eqb}
use Rattle.saved_answers.specs.Answers.{saved_for, count, question_of, value_of}

-- the answers past the first
module _ (question value : ℕ) (more : List ℕ) (k : ℕ) where
  pub next_question : question_of (question ∷ value ∷ more) (suc k) ≡ question_of more k
  next_question = let e : 2 * suc k ≡ suc (suc (2 * k)) = omega arith in rw e

  pub next_value : value_of (question ∷ value ∷ more) (suc k) ≡ value_of more k
  next_value = let e : 2 * suc k + 1 ≡ suc (suc (2 * k + 1)) = omega arith in rw e

-- answer k is the first for n
pub saved_first :
    (answers : List ℕ) (n k : ℕ) → k < count answers → ((j : ℕ) → j < k → question_of answers j ≡ n → ⊥) → question_of answers k ≡ n
    → saved_for n answers ≡ some (value_of answers k)
unfolding saved_for
saved_first [] n k h before e = absurd (omega arith)
saved_first (q ∷ []) n k h before e = absurd (omega arith)
saved_first (q ∷ v ∷ more) n zero h before e = rw (eq-eqb q n e)
saved_first (q ∷ v ∷ more) n (suc k) h before e =
    rw (ne_eqb q n (before 0 (omega arith)), next_value q v more k)
    (saved_first more n k (omega arith) (λ j l d. before (suc j) (omega arith) (next_question q v more j ∙ d)) (sym (next_question q v more k) ∙ e))

-- no answer is for n
pub saved_none : (answers : List ℕ) (n : ℕ) → ((j : ℕ) → j < count answers → question_of answers j ≡ n → ⊥) → saved_for n answers ≡ none
unfolding saved_for
saved_none [] n other = refl
saved_none (q ∷ []) n other = refl
saved_none (q ∷ v ∷ more) n other =
    rw (ne_eqb q n (other 0 (omega arith)))
    (saved_none more n (λ j l d. other (suc j) (omega arith) (next_question q v more j ∙ d)))
