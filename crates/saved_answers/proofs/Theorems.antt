-- What ascending answers say is found by halves (document 02, W-202).
use Prim.Native.Nat.{ℕ, ◌<◌}
use native.Mathlib.Omega.{arith}
use native.Mathlib.Decide.{ℕ_discrete, dec_lt}
use mathlib.Core.Path.{◌≡◌, refl, sym, ap, fun_ext, ◌∙◌}
use mathlib.Core.List.{List}
use Rattle.numbers.specs.Numbers.{used}
use Rattle.saved_answers.specs.Answers.{saved_for, by_kind, answered, count, question_of, Ascending}
use Rattle.saved_answers.specs.Search.{lowest, searched, question_value}
use Rattle.saved_answers.proofs.WalkLaws.{saved_first, saved_none}
use Rattle.saved_answers.proofs.KindLaws.{searched_past, searched_other, searched_own}
use Rattle.saved_answers.proofs.AscendingLaws.{found}

module _ (answers : List ℕ) (ascending : Ascending answers) where
  -- the answer that is found is the one for n, and where none is found none is for n
  pub searched_saved : (n : ℕ) → searched answers n ≡ saved_for n answers
  searched_saved n = go (lowest answers n) refl (dec_lt (lowest answers n) (count answers)) (ℕ_discrete (question_of answers (lowest answers n)) n)
    where
      -- an answer for n is the one that is found
      own : (k j : ℕ) → k ≡ lowest answers n → j < count answers → question_of answers j ≡ n → j ≡ k
      own k j e h d = sym (found answers ascending j h) ∙ ap (lowest answers) d ∙ sym e

      go : (k : ℕ) → k ≡ lowest answers n → Dec (k < count answers) → Dec (question_of answers k ≡ n) → searched answers n ≡ saved_for n answers
      go k e (no h) d = searched_past answers n k e (omega arith) ∙ sym (saved_none answers n (λ j l x. omega (arith, own k j e l x)))
      go k e (yes h) (no d) = searched_other answers n k e d ∙ sym (saved_none answers n (λ j l x. d (ap (question_of answers) (sym (own k j e l x)) ∙ x)))
      go k e (yes h) (yes d) = searched_own answers n k e h d ∙ sym (saved_first answers n k h (λ j l x. omega (arith, own k j e (omega arith) x)) d)

  -- so the code's questions answer what W-202 says
  pub value_answered : (gotos checkboxes : List ℕ) → question_value answers gotos checkboxes ≡ answered answers gotos checkboxes
  unfolding question_value answered
  value_answered gotos checkboxes = fun_ext (λ n. ap (by_kind (used gotos n) (used checkboxes n)) (searched_saved n))
