-- The search by halves: how it goes on.
use Prim.Native.Nat.{ℕ, zero, suc, ◌+◌, ◌-◌, ◌≤◌, ◌<◌}
use native.Mathlib.Omega.{arith}
use native.Mathlib.Decide.{dec_lt}
use mathlib.Core.Path.{◌≡◌, refl, sym, ◌∙◌}
use mathlib.Core.List.{List}
use borrow.Author.Tests.{lt-ltb, le-ltb}
use Rattle.saved_answers.specs.Answers.{count, question_of}
use Rattle.saved_answers.specs.Search.{middle, halved}

module _ (answers : List ℕ) (n : ℕ) where
  -- ---- a step, by the code's tests

  pub halved_ends : (fuel low high : ℕ) → high ≤ low → halved answers n fuel low high ≡ low
  unfolding halved
  halved_ends zero low high h = refl
  halved_ends (suc fuel) low high h = rw (le-ltb low high h)

  module _ (fuel low high : ℕ) (h : low < high) where
    pub halved_up : question_of answers (middle low high) < n → halved answers n (suc fuel) low high ≡ halved answers n fuel (middle low high + 1) high
    unfolding halved
    halved_up l = rw (lt-ltb low high h, lt-ltb (question_of answers (middle low high)) n l)

    pub halved_down : n ≤ question_of answers (middle low high) → halved answers n (suc fuel) low high ≡ halved answers n fuel low (middle low high)
    unfolding halved
    halved_down l = rw (lt-ltb low high h, le-ltb (question_of answers (middle low high)) n l)

  -- fuel that is enough
  enough : (f g low high : ℕ) → high ≤ low + f → high ≤ low + g → halved answers n f low high ≡ halved answers n g low high
  enough zero g low high a b = halved_ends zero low high (omega arith) ∙ sym (halved_ends g low high (omega arith))
  enough (suc f) zero low high a b = halved_ends (suc f) low high (omega arith) ∙ sym (halved_ends zero low high (omega arith))
  enough (suc f) (suc g) low high a b =
      elim (dec_lt low high) [
        | no h ↦ halved_ends (suc f) low high (omega arith) ∙ sym (halved_ends (suc g) low high (omega arith))
        | yes h ↦
            elim (dec_lt (question_of answers (middle low high)) n) [
              | yes l ↦ halved_up f low high h l ∙ enough f g (middle low high + 1) high (omega arith) (omega arith) ∙ sym (halved_up g low high h l)
              | no l ↦
                  halved_down f low high h (omega arith)
                  ∙ enough f g low (middle low high) (omega arith) (omega arith)
                  ∙ sym (halved_down g low high h (omega arith))
            ]
      ]

  -- ---- the loop: with the fuel that is enough for all answers the search goes on as it began

  abbrev pub from : ℕ → ℕ → ℕ
  from low high = halved answers n (count answers) low high

  module _ (low high : ℕ) (h : low < high) (b : high ≤ count answers) where
    pub goes_up : question_of answers (middle low high) < n → from (middle low high + 1) high ≡ from low high
    goes_up l =
        enough (count answers) (high - low) (middle low high + 1) high (omega arith) (omega arith)
        ∙ sym (halved_up (high - low) low high h l)
        ∙ enough (suc (high - low)) (count answers) low high (omega arith) (omega arith)

    pub goes_down : n ≤ question_of answers (middle low high) → from low (middle low high) ≡ from low high
    goes_down l =
        enough (count answers) (high - low) low (middle low high) (omega arith) (omega arith)
        ∙ sym (halved_down (high - low) low high h l)
        ∙ enough (suc (high - low)) (count answers) low high (omega arith) (omega arith)
