-- The search by halves among ascending answers: it comes to each of them.
use Prim.Native.Nat.{ℕ, zero, suc, ◌+◌, ◌-◌, ◌≤◌, ◌<◌}
use native.Mathlib.Omega.{arith}
use native.Mathlib.Decide.{ℕ_discrete, dec_lt}
use mathlib.Core.Path.{◌≡◌, ap, ◌∙◌}
use mathlib.Core.List.{List}
use Rattle.saved_answers.specs.Answers.{count, question_of, Ascending}
use Rattle.saved_answers.specs.Search.{middle, halved, lowest}
use Rattle.saved_answers.proofs.SearchLaws.{halved_ends, halved_up, halved_down}

module _ (answers : List ℕ) (ascending : Ascending answers) where
  rises : (i d : ℕ) → i + suc d < count answers → question_of answers i < question_of answers (i + suc d)
  rises i zero h = let e : i + suc 0 ≡ i + 1 = omega arith in rw e (ascending i (omega arith))
  rises i (suc d) h =
      let e : i + suc (suc d) ≡ (i + suc d) + 1 = omega arith in
      rw e (omega (arith, rises i d (omega arith), ascending (i + suc d) (omega arith)))

  apart : (i j : ℕ) → i < j → j < count answers → question_of answers i < question_of answers j
  apart i j h l = let e : i + suc (j - suc i) ≡ j = omega arith in rw e at (rises i (j - suc i) (omega arith))

  -- the lower of two answers is for the lower number
  lower : (i j : ℕ) → i < count answers → question_of answers i < question_of answers j → i < j
  lower i j h l =
      elim (dec_lt i j) [
        | yes k ↦ k
        | no k ↦
            elim (ℕ_discrete i j) [
              | yes e ↦ absurd (omega (arith, ap (question_of answers) e))
              | no e ↦ absurd (omega (arith, apart j i (omega arith) h))
            ]
      ]

  not_lower : (i j : ℕ) → j < count answers → question_of answers j ≤ question_of answers i → j ≤ i
  not_lower i j h l = elim (dec_lt i j) [ yes k ↦ absurd (omega (arith, apart i j k h)) | no k ↦ omega arith ]

  module _ (k : ℕ) (inside : k < count answers) where
    -- the search between low and high comes to answer k
    comes : (fuel low high : ℕ) → low ≤ k → k ≤ high → high ≤ count answers → high ≤ low + fuel → halved answers (question_of answers k) fuel low high ≡ k
    comes zero low high l h r f = let e : low ≡ k = omega arith in halved_ends answers (question_of answers k) zero low high (omega arith) ∙ e
    comes (suc fuel) low high l h r f =
        let n = question_of answers k in
        let m = middle low high in
        elim (dec_lt low high) [
          | no g ↦ let e : low ≡ k = omega arith in halved_ends answers n (suc fuel) low high (omega arith) ∙ e
          | yes g ↦
              elim (dec_lt (question_of answers m) n) [
                | yes d ↦ halved_up answers n fuel low high g d ∙ comes fuel (m + 1) high (omega (arith, lower m k (omega arith) d)) h r (omega arith)
                | no d ↦
                    halved_down answers n fuel low high g (omega arith)
                    ∙ comes fuel low m l (not_lower m k inside (omega arith)) (omega arith) (omega arith)
              ]
        ]

    pub found : lowest answers (question_of answers k) ≡ k
    unfolding lowest
    found = comes (count answers) 0 (count answers) (omega arith) (omega arith) (omega arith) (omega arith)
