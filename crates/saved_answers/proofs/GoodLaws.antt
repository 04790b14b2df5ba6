-- Good answers: by the code's tests, and as the loop goes on.
use Prim.Native.Nat.{ℕ, suc, ◌+◌, ◌*◌, ◌≤◌, ◌<◌}
use mathlib.Core.Path.{◌≡◌, refl, ap, ◌∙◌}
use mathlib.Core.Bool.{Bool, true, false, cond, ◌&&◌, and-false}
use mathlib.Core.List.{List, [], ◌∷◌}
use native.Mathlib.Omega.{arith}
use borrow.Author.Tests.{lt-ltb, le-ltb}
use lib.Dec.{ltb}
use lib.ListN.{length, drop, length-drop}
use lib.Seq.{drop-cons}
use Rattle.saved_answers.specs.Answers.{count, question_of, value_of}
use Rattle.saved_answers.specs.Good.{good_answers}

module _ (borne : ℕ → Bool) where
  -- a list of one word, or of none
  short : (n : ℕ) (l : List ℕ) → length l < 2 → good_answers borne n l ≡ 0
  unfolding good_answers
  short n [] h = refl
  short n (q ∷ []) h = refl
  short n (q ∷ v ∷ more) h = absurd (omega arith)

  module _ (answers : List ℕ) where
    -- the answers from k on
    abbrev from : ℕ → List ℕ
    from k = drop (2 * k) answers

    from_next : (k : ℕ) → k < count answers → from k ≡ question_of answers k ∷ value_of answers k ∷ from (k + 1)
    from_next k h =
        let one : 2 * k + 1 ≡ suc (2 * k) = omega arith in
        let two : 2 * (k + 1) ≡ suc (suc (2 * k)) = omega arith in
        drop-cons answers (2 * k) 0 (omega arith) ∙ rw (one, two, drop-cons answers (suc (2 * k)) 0 (omega arith))

    -- ---- the loop: the answers before k are good, the last of them for `last`

    pub record Checking (last k : ℕ) : Type 0 where
      pub inside : k ≤ count answers
      pub same : good_answers borne 0 answers ≡ k + good_answers borne last (from k)

    pub checking_start : Checking 0 0
    checking_start = record { inside = omega arith; same = omega arith }

    module _ {last k : ℕ} (v : Checking last k) where
      module _ (h : k < count answers) {q : ℕ} (e : q ≡ question_of answers k) where
        here : good_answers borne last (from k) ≡ cond (ltb last q && borne q) (suc (good_answers borne q (from (k + 1)))) 0
        unfolding good_answers
        here = ap (good_answers borne last) (from_next k h) ∙ rw e refl

        -- answer k, for question q, is out of order, or no question bears its number
        pub checking_low : q ≤ last → k ≡ good_answers borne 0 answers
        checking_low l =
            let none : good_answers borne last (from k) ≡ 0 = here ∙ rw (le-ltb last q l) refl in
            omega (arith, v.same, none)

        pub checking_stray : borne q ≡ false → k ≡ good_answers borne 0 answers
        checking_stray f =
            let none : good_answers borne last (from k) ≡ 0 = here ∙ rw (f, and-false (ltb last q)) refl in
            omega (arith, v.same, none)

        -- or it is good
        pub checking_next : last < q → borne q ≡ true → Checking q (k + 1)
        checking_next l f =
            let one : good_answers borne last (from k) ≡ suc (good_answers borne q (from (k + 1))) = here ∙ rw (lt-ltb last q l, f) refl in
            record { inside = omega arith; same = omega (arith, v.same, one) }

      pub checking_end : count answers ≤ k → k ≡ good_answers borne 0 answers
      checking_end h =
          let none : good_answers borne last (from k) ≡ 0 = short last (from k) (omega (arith, v.inside, length-drop (2 * k) answers)) in
          omega (arith, v.same, none)
