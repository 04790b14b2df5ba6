-- Refusal 15 in W-202's words: the answers before the first at fault ascend strictly and are for numbers that questions bear; the next one does not.
use Prim.Native.Nat.{ℕ, zero, suc, ◌+◌, ◌*◌, ◌≤◌, ◌<◌}
use mathlib.Core.Path.{◌≡◌, refl, ◌∙◌}
use mathlib.Core.Bool.{Bool, true, false, cond, ◌&&◌}
use mathlib.Core.List.{List, [], ◌∷◌}
use native.Mathlib.Omega.{arith}
use borrow.Author.Tests.{ltb-true}
use lib.Dec.{ltb}
use lib.ListN.{length}
use Rattle.numbers.proofs.Ranges.{and_yes}
use Rattle.saved_answers.specs.Answers.{count, question_of, Ascending}
use Rattle.saved_answers.specs.Good.{good_answers}
use Rattle.saved_answers.proofs.WalkLaws.{next_question}

-- the number that answer k must be above: that of the answer before it, n for the first
abbrev pub above : ℕ → List ℕ → ℕ → ℕ
above n answers zero = n
above n answers (suc k) = question_of answers k

module _ (borne : ℕ → Bool) where
  -- answer k is in order, and a question bears its number
  abbrev pub is_good : ℕ → List ℕ → ℕ → Bool
  is_good n answers k = ltb (above n answers k) (question_of answers k) && borne (question_of answers k)

  above_next : (n q v : ℕ) (more : List ℕ) (k : ℕ) → above n (q ∷ v ∷ more) (suc k) ≡ above q more k
  above_next n q v more zero = refl
  above_next n q v more (suc k) = next_question q v more k

  good_next : (n q v : ℕ) (more : List ℕ) (k : ℕ) → is_good n (q ∷ v ∷ more) (suc k) ≡ is_good q more k
  good_next n q v more k = rw (above_next n q v more k, next_question q v more k)

  -- every answer before the first at fault is good
  pub good_before : (n : ℕ) (answers : List ℕ) (k : ℕ) → k < good_answers borne n answers → is_good n answers k ≡ true
  unfolding good_answers
  good_before n [] k h = absurd (omega arith)
  good_before n (q ∷ []) k h = absurd (omega arith)
  good_before n (q ∷ v ∷ more) k h = go (ltb n q && borne q) refl k h (good_before q more)
    where
      go :
          (t : Bool) → (ltb n q && borne q) ≡ t → (k : ℕ) → k < cond t (suc (good_answers borne q more)) 0
          → ((j : ℕ) → j < good_answers borne q more → is_good q more j ≡ true) → is_good n (q ∷ v ∷ more) k ≡ true
      go true e zero l ih = e
      go true e (suc k) l ih = good_next n q v more k ∙ ih k (omega arith)
      go false e k l ih = absurd (omega arith)

  -- and the next one, where there is one, is not
  pub fault_at_lem : (n : ℕ) (answers : List ℕ) → good_answers borne n answers < count answers → is_good n answers (good_answers borne n answers) ≡ false
  unfolding good_answers
  fault_at_lem n [] h = absurd (omega arith)
  fault_at_lem n (q ∷ []) h = absurd (omega arith)
  fault_at_lem n (q ∷ v ∷ more) h = go (ltb n q && borne q) refl h (fault_at_lem q more)
    where
      go :
          (t : Bool) → (ltb n q && borne q) ≡ t → cond t (suc (good_answers borne q more)) 0 < count (q ∷ v ∷ more)
          → (good_answers borne q more < count more → is_good q more (good_answers borne q more) ≡ false)
          → is_good n (q ∷ v ∷ more) (cond t (suc (good_answers borne q more)) 0) ≡ false
      go true e l ih = good_next n q v more (good_answers borne q more) ∙ ih (omega arith)
      go false e l ih = e

  -- no more answers are good than there are
  pub good_few : (n : ℕ) (answers : List ℕ) → good_answers borne n answers ≤ count answers
  unfolding good_answers
  good_few n [] = omega arith
  good_few n (q ∷ []) = omega arith
  good_few n (q ∷ v ∷ more) = go (ltb n q && borne q) (good_few q more)
    where
      go : (t : Bool) → good_answers borne q more ≤ count more → cond t (suc (good_answers borne q more)) 0 ≤ count (q ∷ v ∷ more)
      go true ih = omega arith
      go false ih = omega arith

  -- so where all words are good answers, they ascend, and a question bears the number of each
  module _ (answers : List ℕ) (all : 2 * good_answers borne 0 answers ≡ length answers) where
    each : (k : ℕ) → k < count answers → is_good 0 answers k ≡ true
    each k h = good_before 0 answers k (omega arith)

    pub all_ascend : Ascending answers
    all_ascend k h =
        let up : k + 1 ≡ suc k = omega arith in
        let next = and_yes (ltb (question_of answers k) (question_of answers (suc k))) _ (each (suc k) (omega arith)) in
        rw up (ltb-true (question_of answers k) (question_of answers (suc k)) next.0)

    pub all_borne : (k : ℕ) → k < count answers → borne (question_of answers k) ≡ true
    all_borne k h = (and_yes (ltb (above 0 answers k) (question_of answers k)) _ (each k h)).1
