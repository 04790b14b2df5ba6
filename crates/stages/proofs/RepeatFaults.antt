-- Stages 7 and 8 as the code does them find the first of the faults that grammar lists, and leave maps of all numbers.
use Prim.Native.Nat.{ℕ, zero, suc, ◌<◌}
use mathlib.Core.Path.{◌≡◌, refl, sym, ◌∙◌}
use mathlib.Core.Bool.{Bool, true, false, cond, ◌&&◌, ◌||◌, or_assoc, or_comm, or-false, and-true, and-false, true≢false}
use mathlib.Core.List.{List, [], ◌∷◌}
use native.Mathlib.Omega.{arith}
use borrow.Author.Tests.{eq-eqb, ne_eqb, eqb-true, eqb-false, ltb-true, ltb-false, lt-ltb}
use lib.Dec.{eqb, ltb}
use lib.ListN.{length}
use Rattle.numbers.specs.Numbers.{is_number, number_limit, empty_map, used, with_used, mem, borne, Holds}
use Rattle.numbers.proofs.Ranges.{and_yes}
use Rattle.numbers.proofs.Lists.{mem_cons, borne_or}
use Rattle.numbers.proofs.Maps.{used_empty, used_marked, length_marked, holds_empty}
use Rattle.rows.specs.Codes as code
use Rattle.rows.specs.Columns as column
use Rattle.answers.specs.Rows.{Draft}
use Rattle.answers.specs.Stages.{cell, is, asks, writes, any, fault_if, faults_after, repeated_forms, repeated_questions, own_numbers}
use Rattle.stages.specs.Repeats.{form_number, written_number, repeated_mark, map_after}
use Rattle.drafts.specs.Sound.{SoundRow, AllSound, no_rows, add_row, SoundRows, First, none}
use Rattle.drafts.proofs.RowTests.{or_swap, any_none, any_cons}
use Rattle.drafts.proofs.Firsts.{first_cond}

-- ---- the rows that have a number, and that number

record Counts (has : Draft → Bool) (number : Draft → ℕ) (d : Draft) : Type 0 where
  numbers : is_number (number d) ≡ has d
  own : has d ≡ true → number d ≡ cell column.OWN d
  written : has d ≡ true → 0 < d.own_at
  no_number : has d ≡ false → number d ≡ 0

-- a row that has the number k
abbrev pub bears : (Draft → Bool) → ℕ → Draft → Bool
bears has k e = has e && eqb (cell column.OWN e) k

-- the map holds the numbers of the rows that have one, and no other
pub record Tells (has : Draft → Bool) (ws : List ℕ) (ds : List Draft) : Type 0 where
  pub size : length ws ≡ 1024
  pub same : (k : ℕ) → used ws k ≡ any (bears has k) ds
  pub no_zero : used ws 0 ≡ false

eqb_sym : (a b : ℕ) → eqb a b ≡ eqb b a
eqb_sym a b = go (eqb b a) refl
  where
    go : (c : Bool) → eqb b a ≡ c → eqb a b ≡ c
    go true e = eq-eqb a b (sym (eqb-true b a e))
    go false e = ne_eqb a b (λ f. eqb-false b a e (sym f))

zero_marked : (n : ℕ) → (eqb 0 n && is_number n) ≡ false
zero_marked zero = refl
zero_marked (suc n) = rw (ne_eqb 0 (suc n) (λ e. omega arith))

module _ {has : Draft → Bool} {number : Draft → ℕ} {d : Draft} (c : Counts has number d) where
  -- marking the row's number adds the row
  row_added : (k : ℕ) → (eqb k (number d) && is_number (number d)) ≡ bears has k d
  row_added k = go (has d) refl
    where
      go : (b : Bool) → has d ≡ b → (eqb k (number d) && is_number (number d)) ≡ bears has k d
      go true e = rw (c.numbers, e, c.own e, eqb_sym k (cell column.OWN d)) (and-true (eqb (cell column.OWN d) k))
      go false e = rw (c.numbers, e) (and-false (eqb k (number d)))

  module _ {ws : List ℕ} {before : List Draft} (v : Tells has ws before) where
    -- the map has the row's number exactly where a row before has it
    row_used : used ws (number d) ≡ (has d && any (bears has (cell column.OWN d)) before)
    row_used = go (has d) refl
      where
        go : (b : Bool) → has d ≡ b → used ws (number d) ≡ (b && any (bears has (cell column.OWN d)) before)
        go true e = rw (c.own e) (v.same (cell column.OWN d))
        go false e = rw (c.no_number e) v.no_zero

    tells_next : Tells has (with_used ws (number d)) (d ∷ before)
    tells_next =
        record {
          size = length_marked ws (number d) ∙ v.size;
          same = λ k.
              used_marked ws (number d) v.size k
              ∙ rw (v.same k, row_added k) (or_comm (any (bears has k) before) (bears has k d) ∙ sym (any_cons (bears has k) d before));
          no_zero = used_marked ws (number d) v.size 0 ∙ rw v.no_zero (zero_marked (number d));
        }

-- ---- all rows

-- the map has the numbers of the rows before and of the others
record Gains (has : Draft → Bool) (ws : List ℕ) (before ds : List Draft) : Type 0 where
  size : length ws ≡ 1024
  same : (k : ℕ) → used ws k ≡ (any (bears has k) before || any (bears has k) ds)
  no_zero : used ws 0 ≡ false

abbrev repeats_after : (Draft → Bool) → List Draft → Draft → List ℕ
repeats_after has before d = fault_if (has d && any (λ e. has e && eqb (cell column.OWN e) (cell column.OWN d)) before) d.own_at

module _ (has : Draft → Bool) (number : Draft → ℕ) (counts : (d : Draft) → SoundRow d → Counts has number d) where
  repeats_from : {ds : List Draft} → AllSound ds → (ws : List ℕ) (before : List Draft) → Tells has ws before
      → First (repeated_mark number ws ds) (faults_after (repeats_after has) before ds)
  unfolding repeated_mark faults_after
  repeats_from no_rows ws before v = none
  repeats_from (add_row {d = d} {ds = ds} s r) ws before v =
      rw (row_used (counts d s) v)
      (first_cond (has d && any (bears has (cell column.OWN d)) before) (λ e. (counts d s).written (and_yes (has d) _ e).0)
      (repeats_from r (with_used ws (number d)) (d ∷ before) (tells_next (counts d s) v)))

  -- where no number is repeated, the map gains those of all rows
  map_from : {ds : List Draft} → AllSound ds → (ws : List ℕ) (before : List Draft) → Tells has ws before → repeated_mark number ws ds ≡ 0
      → Gains has (map_after number ws ds) before ds
  unfolding repeated_mark map_after
  map_from no_rows ws before v z = record { size = v.size; same = λ k. v.same k ∙ rw (any_none (bears has k)) (sym (or-false (any (bears has k) before))); no_zero = v.no_zero }
  map_from (add_row {d = d} {ds = ds} s r) ws before v z = go (used ws (number d)) refl (map_from r (with_used ws (number d)) (d ∷ before) (tells_next (counts d s) v)) z
    where
      go : (b : Bool) → used ws (number d) ≡ b → (repeated_mark number (with_used ws (number d)) ds ≡ 0 → Gains has (map_after number (with_used ws (number d)) ds) (d ∷ before) ds)
          → cond b d.own_at (repeated_mark number (with_used ws (number d)) ds) ≡ 0
          → Gains has (cond b ws (map_after number (with_used ws (number d)) ds)) before (d ∷ ds)
      go true e f y = absurd (omega (arith, (counts d s).written (and_yes (has d) _ (sym (row_used (counts d s) v) ∙ e)).0))
      go false e f y =
          let g = f y in
          record {
            size = g.size;
            same = λ k.
                g.same k
                ∙ rw (any_cons (bears has k) d before, any_cons (bears has k) d ds)
                (or_assoc (bears has k d) (any (bears has k) before) (any (bears has k) ds) ∙ or_swap (bears has k d) (any (bears has k) before) (any (bears has k) ds));
            no_zero = g.no_zero;
          }

  tells_empty : Tells has empty_map []
  tells_empty = record { size = holds_empty.size; same = λ k. used_empty k ∙ sym (any_none (bears has k)); no_zero = used_empty 0 }

  repeats_first : {ds : List Draft} → AllSound ds → First (repeated_mark number empty_map ds) (faults_after (repeats_after has) [] ds)
  repeats_first r = repeats_from r empty_map [] tells_empty

  map_all : {ds : List Draft} → AllSound ds → repeated_mark number empty_map ds ≡ 0 → Tells has (map_after number empty_map ds) ds
  map_all {ds} r z =
      let g = map_from r empty_map [] tells_empty z in
      record { size = g.size; same = λ k. g.same k ∙ rw (any_none (bears has k)); no_zero = g.no_zero }

-- ---- forms

form_counts : (d : Draft) → SoundRow d → Counts (is code.FORM) form_number d
form_counts d s = go (is code.FORM d) refl
  where
    go : (b : Bool) → is code.FORM d ≡ b → Counts (is code.FORM) form_number d
    go true e = record { numbers = rw e (s.form e); own = λ f. rw f; written = s.form_mark; no_number = λ f. absurd (true≢false (sym e ∙ f)) }
    go false e = record { numbers = rw e; own = λ f. absurd (true≢false (sym f ∙ e)); written = s.form_mark; no_number = λ f. rw f }

-- stage 7 answers grammar's first fault; where there is none, its map then has the numbers of all forms
pub forms_first : {ds : List Draft} → SoundRows ds → First (repeated_mark form_number empty_map ds) (repeated_forms ds)
unfolding repeated_forms
forms_first v = repeats_first (is code.FORM) form_number form_counts v.each

pub forms_told : {ds : List Draft} → SoundRows ds → repeated_mark form_number empty_map ds ≡ 0 → Tells (is code.FORM) (map_after form_number empty_map ds) ds
forms_told v = map_all (is code.FORM) form_number form_counts v.each

-- ---- questions

question_counts : (d : Draft) → SoundRow d → Counts writes written_number d
question_counts d s = go (asks d) refl
  where
    marked_written : (a b : Bool) → (a && b) ≡ true → b ≡ ltb 0 d.own_at → 0 < d.own_at
    marked_written a b e f = ltb-true 0 d.own_at (sym f ∙ (and_yes a b e).1)

    go : (b : Bool) → asks d ≡ b → Counts writes written_number d
    go true e =
        let own : is_number (cell column.OWN d) ≡ ltb 0 d.own_at =
        rw (lt-ltb (cell column.OWN d) number_limit (s.question e)) (and-true (ltb 0 (cell column.OWN d)) ∙ s.question_mark e) in
        record {
          numbers = rw e own;
          own = λ f. rw e;
          written = λ f. marked_written (asks d) (ltb 0 d.own_at) f refl;
          no_number = λ f. rw e (none_written (cell column.OWN d) (s.question_mark e ∙ (rw e at f)));
        }
      where
        none_written : (n : ℕ) → ltb 0 n ≡ false → n ≡ 0
        none_written n h = omega (arith, ltb-false 0 n h)
    go false e =
        record {
          numbers = rw e;
          own = λ f. absurd (true≢false (sym f ∙ rw e));
          written = λ f. marked_written (asks d) (ltb 0 d.own_at) f refl;
          no_number = λ f. rw e;
        }

-- stage 8 answers grammar's first fault; where there is none, its map then has all written numbers
pub questions_first : {ds : List Draft} → SoundRows ds → First (repeated_mark written_number empty_map ds) (repeated_questions ds)
unfolding repeated_questions
questions_first v = repeats_first writes written_number question_counts v.each

pub questions_told : {ds : List Draft} → SoundRows ds → repeated_mark written_number empty_map ds ≡ 0 → Tells writes (map_after written_number empty_map ds) ds
questions_told v = map_all writes written_number question_counts v.each

-- such a map holds the questions' own numbers, as numbering asks
own_borne : {ds : List Draft} → AllSound ds → (k : ℕ) → borne (own_numbers ds) k ≡ any (bears writes k) ds
unfolding own_numbers any mem
own_borne no_rows k = and-false (is_number k)
own_borne (add_row {d = d} {ds = ds} s r) k = go (asks d) refl (own_borne r k)
  where
    go : (b : Bool) → asks d ≡ b → borne (own_numbers ds) k ≡ any (bears writes k) ds
        → borne (cond b (cell column.OWN d ∷ own_numbers ds) (own_numbers ds)) k ≡ (bears writes k d || any (bears writes k) ds)
    go true e h =
        let n : ℕ = cell column.OWN d in
        let m : Bool = mem k (own_numbers ds) in
        let added : (eqb k n && is_number n) ≡ bears writes k d =
        (let number : written_number d ≡ n = rw e in rw number at (row_added (question_counts d s) k)) in
        rw (mem_cons k n (own_numbers ds), ← borne_or k n m, or_comm (is_number k && m) (eqb k n && is_number n), added, h)
    go false e h = rw e h

pub written_held : {ds : List Draft} → SoundRows ds → {ws : List ℕ} → Tells writes ws ds → Holds ws (own_numbers ds)
written_held v u = record { size = u.size; same = λ k. u.same k ∙ sym (own_borne v.each k) }
