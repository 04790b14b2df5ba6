-- Which answers are good, in W-202's words.
-- Assumes nothing.
use Prim.Native.Nat.{ℕ, zero, suc, ◌*◌, ◌<◌}
use native.Mathlib.Omega.{arith}
use mathlib.Core.Path.{◌≡◌, refl, sym, ap, ◌∙◌}
use mathlib.Core.Bool.{Bool, true, false}
use mathlib.Core.Logic.{◌↔◌, ◌≢◌}
use mathlib.Core.List.{List}
use lib.Dec.{ltb}
use lib.ListN.{length}
use borrow.Author.Tests.{ltb-true, lt-ltb}
use Rattle.ll1.proofs.Basics.{clash}
use Rattle.lexemes.proofs.Lists.{either_less}
use Rattle.numbers.proofs.Ranges.{and_yes}
use Rattle.saved_answers.specs.Answers.{count, question_of}
use Rattle.saved_answers.specs.Good.{good_answers}
use Rattle.saved_answers.proofs.GoodTheorems.{is_good, good_before, fault_at_lem, good_few}
use Rattle.show.specs.FirstFault.{GoodAnswer, AllGood, FirstFault}

-- no question bears 0
module _ (borne : ℕ → Bool) (answers : List ℕ) (none : borne 0 ≡ false) where
  abbrev good : ℕ
  good = good_answers borne 0 answers

  -- ---- one answer

  told_good : (k : ℕ) → k < count answers → is_good borne 0 answers k ≡ true → GoodAnswer borne answers k
  told_good zero h e = record { whole = omega arith; ascends = λ j f. absurd (omega arith); bears = (and_yes (ltb 0 (question_of answers 0)) _ e).1 }
  told_good (suc k) h e =
      let both = and_yes (ltb (question_of answers k) (question_of answers (suc k))) _ e in
      record {
        whole = omega arith;
        ascends = λ j f. let same : j ≡ k = omega arith in rw same (ltb-true (question_of answers k) (question_of answers (suc k)) both.0);
        bears = both.1;
      }

  first_above : borne (question_of answers 0) ≡ true → 0 < question_of answers 0
  first_above e =
      either_less 0 (question_of answers 0) (λ l. l) (λ l. let z : question_of answers 0 ≡ 0 = omega arith in clash (cc (sym e ∙ ap borne z ∙ none)))

  good_told : (k : ℕ) → GoodAnswer borne answers k → is_good borne 0 answers k ≡ true
  good_told zero g = rw (lt-ltb 0 (question_of answers 0) (first_above g.bears), g.bears)
  good_told (suc k) g = rw (lt-ltb (question_of answers k) (question_of answers (suc k)) (g.ascends k refl), g.bears)

  -- ---- all of them

  good_each : (k : ℕ) → k < good → GoodAnswer borne answers k
  good_each k h = told_good k (omega (arith, good_few borne 0 answers)) (good_before borne 0 answers k h)

  -- the next one is not
  good_next : GoodAnswer borne answers good → ⊥
  good_next g =
      let inside : good < count answers = omega (arith, g.whole) in
      clash (cc (sym (good_told good g) ∙ fault_at_lem borne 0 answers inside))

  pub all_good : (2 * good ≡ length answers) ↔ AllGood borne answers
  all_good = (
    λ e k h. good_each k (omega arith),
    λ all. either_less (2 * good) (length answers) (λ l. absurd (good_next (all good l))) (λ l. omega (arith, good_few borne 0 answers)),
  )

  pub first_fault_lem : (k : ℕ) → FirstFault borne answers k ↔ ((2 * good ≢ length answers) × (k ≡ good))
  first_fault_lem k = (λ f. let e = same f in (λ all. absurd (omega (arith, f.there)), e), λ p. rw p.1 (at_good p.0))
    where
      same : FirstFault borne answers k → k ≡ good
      same f =
          either_less k good (λ l. absurd (f.fault (good_each k l)))
          (λ l. either_less good k (λ h. absurd (good_next (f.before good h))) (λ h. omega arith))

      at_good : 2 * good ≢ length answers → FirstFault borne answers good
      at_good no_more =
          let there : 2 * good < length answers =
          either_less (2 * good) (length answers) (λ l. l) (λ l. absurd (no_more (omega (arith, good_few borne 0 answers)))) in
          record { there = there; fault = good_next; before = good_each }
