-- Question numbers: those that an accepted source writes are distinct, and rows with distinct ones pass stage 8.
-- Assumes nothing.
use mathlib.Core.Path.{◌≡◌, refl, sym, ◌∙◌}
use mathlib.Core.List.{List, [], ◌∷◌}
use mathlib.Core.Bool.{true, false, not, ◌&&◌, and-false, or-true, true≢false}
use Prim.Native.Nat.{ℕ, zero, suc, ◌≤◌, ◌<◌}
use native.Mathlib.Omega.{arith}
use lib.Dec.{eqb}
use lib.ListN.{length, get_or}
use borrow.Author.Tests.{eq-eqb, eqb-true, lt-ltb, not-true}
use Rattle.lexemes.proofs.Lists.{either}
use Rattle.numbers.specs.Numbers.{is_number, mem, written, distinct, numbered, Below}
use Rattle.numbers.proofs.Ranges.{and_yes, or_no}
use Rattle.numbers.proofs.Lists.{mem_get_or}
use Rattle.numbers.proofs.FreeNumbers.{number_range}
use Rattle.numbers.proofs.Numbering.{Own, numbered_own, numbering_only}
use Rattle.rows.specs.Columns as column
use Rattle.ll1.specs.Trees.{Trees}
use Rattle.ll1.proofs.Basics.{clash, append_empty}
use Rattle.grammar.specs.Derivation.{Derives}
use Rattle.grammar.specs.Source.{source_tokens, number_at}
use Rattle.answers.specs.Rows.{Draft}
use Rattle.answers.specs.Stages.{cell, asks, writes, any, fault_if, faults_after, repeated_questions, own_numbers}
use Rattle.answers.specs.Answer.{LONGEST, drafts}
use Rattle.answers.proofs.QuestionNumbers.{questions_few}
use Rattle.answers.proofs.Demand3.{rows_few}
use Rattle.drafts.specs.Sound.{SoundRow, AllSound, no_rows, add_row}
use Rattle.stages.proofs.RepeatFaults.{bears}
use Rattle.answers.proofs.Faults.{no_fault_lem}

-- ---- the list of own numbers, row by row

module _ (d : Draft) (ds : List Draft) where
  pub numbers_question : asks d ≡ true → own_numbers (d ∷ ds) ≡ cell column.OWN d ∷ own_numbers ds
  unfolding own_numbers
  numbers_question e = rw e

  pub numbers_other : asks d ≡ false → own_numbers (d ∷ ds) ≡ own_numbers ds
  unfolding own_numbers
  numbers_other e = rw e

-- a row that is no question writes no number
silent : (d : Draft) → asks d ≡ false → (k : ℕ) → bears writes k d ≡ false
silent d e k = rw e

abbrev repeats : List Draft → Draft → List ℕ
repeats before d = fault_if (writes d && any (bears writes (cell column.OWN d)) before) d.own_at

-- ---- the source

below : {ds : List Draft} → AllSound ds → Below (own_numbers ds)
unfolding mem own_numbers
below no_rows k h = clash cc
below (add_row {d = d} {ds = ds} u r) k h =
    either (asks d)
    (λ e. either (eqb k (cell column.OWN d)) (λ f. rw (eqb-true k _ f) (u.question e)) (λ f. below r k (rw (e, f) at h)))
    (λ e. below r k (rw e at h))

-- no number of the list stands there twice, nor is it written in the rows before
record Once (before : List Draft) (l : List ℕ) : Type 0 where
  once : distinct l ≡ true
  apart : (k : ℕ) → mem k l ≡ true → any (bears writes k) before ≡ false

-- of the rows before d, and of d
earlier : {before : List Draft} {l : List ℕ} (d : Draft) → Once (d ∷ before) l → (k : ℕ) → mem k l ≡ true → (bears writes k d ≡ false) × (any (bears writes k) before ≡ false)
unfolding any
earlier {before} d v k h = or_no (bears writes k d) (any (bears writes k) before) (v.apart k h)

once_before : {before : List Draft} {l : List ℕ} (d : Draft) → Once (d ∷ before) l → Once before l
once_before d v = record { once = v.once; apart = λ k h. (earlier d v k h).1 }

module _ {before : List Draft} (d : Draft) (ds : List Draft) (u : SoundRow d) (v : Once (d ∷ before) (written (own_numbers ds))) where
  once_other : asks d ≡ false → Once before (written (own_numbers (d ∷ ds)))
  once_other e = rw (numbers_other d ds e) (once_before d v)

  once_question : asks d ≡ true → (q : ℕ) → cell column.OWN d ≡ q → repeats before d ≡ [] → Once before (written (own_numbers (d ∷ ds)))
  unfolding written mem distinct
  once_question e zero o f = rw (numbers_question d ds e, o) (once_before d v)
  once_question e (suc q) o f =
      let does : writes d ≡ true = rw (e, ← u.question_mark e, o) (lt-ltb 0 (suc q) (omega arith)) in
      let none : any (bears writes (suc q)) before ≡ false = rw (does, o) at (no_fault_lem (writes d && any (bears writes (cell column.OWN d)) before) d.own_at f) in
      let fresh : mem (suc q) (written (own_numbers ds)) ≡ false =
      either (mem (suc q) (written (own_numbers ds)))
      (λ h. let n : true ≡ false = rw (does, o, eq-eqb (suc q) (suc q) refl) at (earlier d v (suc q) h).0 in absurd (true≢false n))
      (λ h. h) in
      rw (numbers_question d ds e, o)
      record {
        once = rw fresh v.once;
        apart = λ k h. either (eqb k (suc q)) (λ g. rw (eqb-true k (suc q) g) none) (λ g. (earlier d v k (rw g at h)).1);
      }

once_from : {ds : List Draft} → AllSound ds → (before : List Draft) → faults_after repeats before ds ≡ [] → Once before (written (own_numbers ds))
unfolding faults_after own_numbers written distinct mem
once_from no_rows before e = record { once = refl; apart = λ k h. clash cc }
once_from (add_row {d = d} {ds = ds} u r) before e =
    let t = append_empty (repeats before d) _ e in
    let v = once_from r (d ∷ before) t.1 in
    either (asks d) (λ q. once_question d ds u v q (cell column.OWN d) refl t.0) (λ q. once_other d ds u v q)

module _ (s : List ℕ) (tree : Trees) (derives : Derives (source_tokens s) tree) (short : length s ≤ LONGEST) where
  few : length (own_numbers (drafts s tree)) ≤ 65535
  unfolding drafts
  few = omega (arith, questions_few (number_at s) derives.fits, rows_few s tree derives)

  -- each question of the source gets a number of its own
  pub own_numbers_lem : AllSound (drafts s tree) → repeated_questions (drafts s tree) ≡ [] → Own (numbered (own_numbers (drafts s tree)))
  unfolding repeated_questions
  own_numbers_lem each e = numbered_own (own_numbers (drafts s tree)) few (below each) (once_from each [] e).once

-- ---- rows whose questions all have numbers of their own

-- they keep them
pub numbered_kept : {l : List ℕ} → Own l → numbered l ≡ l
numbered_kept {l} v = sym (numbering_only (record { long = refl; stands = λ j z. refl; gets = λ j h z. absurd (never j h z) }))
  where
    never : (j : ℕ) → j < length l → get_or l j 0 ≡ 0 → ⊥
    never j h z = let n : is_number 0 ≡ true = rw z at (v.within (get_or l j 0) (mem_get_or l j h)) in omega (arith, number_range 0 n)

-- and none repeats one
module _ {before : List Draft} (d : Draft) where
  once_next : (l : List ℕ) → Once before l → ((k : ℕ) → mem k l ≡ true → bears writes k d ≡ false) → Once (d ∷ before) l
  unfolding any
  once_next l v h = record { once = v.once; apart = λ k m. rw (h k m, v.apart k m) }

  module _ (ds : List Draft) where
    later : asks d ≡ true → Once before (own_numbers (d ∷ ds)) → Once (d ∷ before) (own_numbers ds)
    unfolding distinct mem
    later e v =
        let w : Once before (cell column.OWN d ∷ own_numbers ds) = rw (numbers_question d ds e) at v in
        let t = and_yes (not (mem (cell column.OWN d) (own_numbers ds))) (distinct (own_numbers ds)) w.once in
        let rest : Once before (own_numbers ds) = record { once = t.1; apart = λ k m. w.apart k (rw (m, or-true (eqb k (cell column.OWN d)))) } in
        once_next (own_numbers ds) rest (λ k m. differs k m (not-true _ t.0))
      where
        differs : (k : ℕ) → mem k (own_numbers ds) ≡ true → mem (cell column.OWN d) (own_numbers ds) ≡ false → bears writes k d ≡ false
        differs k m f =
            either (eqb (cell column.OWN d) k)
            (λ g. absurd (true≢false (sym m ∙ rw (← eqb-true (cell column.OWN d) k g) f)))
            (λ g. rw g (and-false (writes d)))

    clean : asks d ≡ true → Once before (own_numbers (d ∷ ds)) → repeats before d ≡ []
    unfolding mem
    clean e v =
        let w : Once before (cell column.OWN d ∷ own_numbers ds) = rw (numbers_question d ds e) at v in
        let none = w.apart (cell column.OWN d) (rw (eq-eqb (cell column.OWN d) (cell column.OWN d) refl)) in
        rw (none, and-false (writes d))

once_clean : (ds before : List Draft) → Once before (own_numbers ds) → faults_after repeats before ds ≡ []
unfolding faults_after
once_clean [] before v = refl
once_clean (d ∷ ds) before v =
    either (asks d)
    (λ e. rw (clean d ds e v) (once_clean ds (d ∷ before) (later d ds e v)))
    (λ e. rw e (once_clean ds (d ∷ before) (once_next d (own_numbers ds) (rw (numbers_other d ds e) at v) (λ k m. silent d e k))))

pub none_repeated : (ds : List Draft) → distinct (own_numbers ds) ≡ true → repeated_questions ds ≡ []
unfolding repeated_questions any
none_repeated ds h = once_clean ds [] (record { once = h; apart = λ k m. refl })
