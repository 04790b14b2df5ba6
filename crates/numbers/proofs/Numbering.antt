-- The numbers that questions get: which, that each question has one of its own, and how many stay free.
use mathlib.Core.Path.{◌≡◌, refl, sym, ap, ◌∙◌}
use mathlib.Core.Bool.{Bool, true, false, not, ◌&&◌, ◌||◌, or-false, or-true, true≢false}
use mathlib.Core.List.{List, [], ◌∷◌, ◌++◌}
use Prim.Native.Nat.{ℕ, zero, suc, ◌+◌, ◌≤◌, ◌<◌}
use native.Mathlib.Omega.{arith}
use borrow.Author.Tests.{eq-eqb, ne_eqb, eqb-true, eqb-false, not-true}
use lib.Dec.{eqb}
use lib.ListN.{length, get_or, take}
use lib.Seq.{take-append_seam, ext_get_or}
use Rattle.numbers.specs.Numbers.{is_number, picked, mem, borne, free_numbers, free_count, fill, numbered, unwritten, written, distinct, Below}
use Rattle.numbers.proofs.Ranges.{and_yes, or_no, pick_none, pick_same, pick_this, pick_this_le, count_or}
use Rattle.numbers.proofs.FreeNumbers.{is_number_lem, number_range, free_same, free_rest, free_exactly, free_distinct}
use Rattle.numbers.proofs.Lists.{mem_append, mem_take, mem_written, suc_written, zero_unwritten, fill_length, fill_mem, fill_written, fill_unwritten}

-- ---- which number
-- A number that is written stands. A question that writes none, with i such questions before it, gets the number with i before it among the numbers
-- from 1 up that no question writes, ascending: `free_exactly` and `free_ascend` say that these are `free_numbers`. Where they have run out, 0 stays.

pub record Numbering (l n : List ℕ) : Type 0 where
  pub long : length n ≡ length l
  pub stands : (j : ℕ) → (get_or l j 0 ≡ 0 → ⊥) → get_or n j 0 ≡ get_or l j 0
  pub gets : (j : ℕ) → j < length l → get_or l j 0 ≡ 0 → get_or n j 0 ≡ get_or (free_numbers l) (unwritten (take j l)) 0

pub numbering : (l : List ℕ) → Numbering l (numbered l)
unfolding numbered
numbering l = record { long = fill_length (free_numbers l) l; stands = fill_written (free_numbers l) l; gets = fill_unwritten (free_numbers l) l }

-- and no other list is so numbered
pub numbering_only : {l n : List ℕ} → Numbering l n → n ≡ numbered l
numbering_only {l} {n} v =
    let w : Numbering l (numbered l) = numbering l in
    ext_get_or 0 n (numbered l) (v.long ∙ sym w.long) (λ j h. go j (omega (arith, v.long)) (eqb (get_or l j 0) 0) refl)
  where
    go : (j : ℕ) → j < length l → (b : Bool) → eqb (get_or l j 0) 0 ≡ b → get_or n j 0 ≡ get_or (numbered l) j 0
    go j h true e = v.gets j h (eqb-true _ _ e) ∙ sym ((numbering l).gets j h (eqb-true _ _ e))
    go j h false e = v.stands j (eqb-false _ _ e) ∙ sym ((numbering l).stands j (eqb-false _ _ e))

-- ---- one question more that writes no number changes no earlier one

fill_front : (fs l m : List ℕ) → take (length l) (fill fs (l ++ m)) ≡ fill fs l
unfolding fill
fill_front fs [] m = refl
fill_front [] (q ∷ l) m = ap (λ (t : List ℕ). q ∷ t) (take-append_seam l m)
fill_front (f ∷ fs) (zero ∷ l) m = ap (λ (t : List ℕ). f ∷ t) (fill_front fs l m)
fill_front (f ∷ fs) (suc q ∷ l) m = ap (λ (t : List ℕ). suc q ∷ t) (fill_front (f ∷ fs) l m)

pub one_question_more : (l : List ℕ) → take (length l) (numbered (l ++ 0 ∷ [])) ≡ numbered l
unfolding numbered mem
one_question_more l = rw same (fill_front (free_numbers l) l (0 ∷ []))
  where
    same : free_numbers (l ++ 0 ∷ []) ≡ free_numbers l
    same = free_same (borne (l ++ 0 ∷ [])) (borne l) 1 (λ k h. rw (mem_append k l (0 ∷ []), ne_eqb k 0 (λ e. omega arith), or-false (mem k l)))

-- ---- how many numbers stand in a list

abbrev members : List ℕ → List ℕ
members l = picked (λ k. mem k l) 1 65535

free_members : (l : List ℕ) → free_count l + length (members l) ≡ 65535
free_members l =
    let e : picked (borne l) 1 65535 ≡ members l = pick_same (borne l) (λ k. mem k l) 65535 1 (λ k h g. rw (is_number_lem k h (omega arith))) in
    omega (arith, ap length e, free_rest (borne l))

-- ---- there are numbers enough for 65,535 questions

-- no more numbers stand in the list than are written
members_le : (l : List ℕ) → length (members l) + unwritten l ≤ length l
unfolding mem unwritten
members_le [] = omega (arith, ap length (pick_none (λ k. false) 65535 1 (λ k g h. refl)))
members_le (zero ∷ l) =
    omega (arith, members_le l, ap length (pick_same (λ k. eqb k 0 || mem k l) (λ k. mem k l) 65535 1 (λ k g h. rw (ne_eqb k 0 (λ e. omega arith)))))
members_le (suc q ∷ l) = omega (arith, members_le l, count_or (λ k. eqb k (suc q)) (λ k. mem k l) 65535 1, pick_this_le (suc q) 1 65535)

pub enough_free : (l : List ℕ) → length l ≤ 65535 → unwritten l ≤ free_count l
enough_free l h = omega (arith, members_le l, free_members l)

-- ---- every question has a number of its own

-- all are numbers of 1 to 65,535, so that none is 0, and none stands there twice
pub record Own (n : List ℕ) : Type 0 where
  pub within : (k : ℕ) → mem k n ≡ true → is_number k ≡ true
  pub once : distinct n ≡ true

all_written : (l : List ℕ) → unwritten l ≤ 0 → written l ≡ l
unfolding unwritten written
all_written [] h = refl
all_written (zero ∷ l) h = absurd (omega arith)
all_written (suc q ∷ l) h = ap (λ (t : List ℕ). suc q ∷ t) (all_written l h)

abbrev Apart : List ℕ → List ℕ → Type 0
Apart fs l = (k : ℕ) → mem k fs ≡ true → mem k l ≡ false

-- fs are enough, none stands in fs twice, none is written twice, and what is in fs is not written
fill_distinct : (fs l : List ℕ) → unwritten l ≤ length fs → distinct fs ≡ true → distinct (written l) ≡ true → Apart fs (written l)
    → distinct (fill fs l) ≡ true
unfolding mem fill distinct unwritten written
fill_distinct fs [] h d w a = refl
fill_distinct [] (q ∷ l) h d w a = rw (all_written (q ∷ l) h) at w
fill_distinct (f ∷ fs) (zero ∷ l) h d w a =
    let e = and_yes (not (mem f fs)) (distinct fs) d in
    rw (fill_mem f fs l (λ z. omega arith), a f (rw (eq-eqb f f refl)), mem_take f (unwritten l) fs (not-true (mem f fs) e.0))
    (fill_distinct fs l (omega arith) e.1 w (λ k m. a k (rw (m, or-true (eqb k f)))))
fill_distinct (f ∷ fs) (suc q ∷ l) h d w a =
    let e = and_yes (not (mem (suc q) (written l))) (distinct (written l)) w in
    rw (fill_mem (suc q) (f ∷ fs) l (λ z. h), not-true (mem (suc q) (written l)) e.0, mem_take (suc q) (unwritten l) (f ∷ fs) (other (mem (suc q) (f ∷ fs)) refl))
    (fill_distinct (f ∷ fs) l h d e.1 (λ k m. (or_no (eqb k (suc q)) (mem k (written l)) (a k m)).1))
  where
    other : (b : Bool) → mem (suc q) (f ∷ fs) ≡ b → mem (suc q) (f ∷ fs) ≡ false
    other true m = absurd (true≢false (sym (eq-eqb (suc q) (suc q) refl) ∙ (or_no (eqb (suc q) (suc q)) (mem (suc q) (written l)) (a (suc q) m)).0))
    other false m = m

-- what is written is a number
written_number_lem : (l : List ℕ) → Below l → (k : ℕ) → mem k (written l) ≡ true → is_number k ≡ true
written_number_lem l b zero m = absurd (true≢false (sym m ∙ zero_unwritten l))
written_number_lem l b (suc k) m = is_number_lem (suc k) (omega arith) (b (suc k) (sym (suc_written k l) ∙ m))

pub numbered_own : (l : List ℕ) → length l ≤ 65535 → Below l → distinct (written l) ≡ true → Own (numbered l)
unfolding numbered
numbered_own l h b w =
    record { within = λ k m. within k m (mem k (written l)) refl; once = fill_distinct (free_numbers l) l (enough_free l h) (free_distinct l) w apart }
  where
    free_number : (k : ℕ) → mem k (free_numbers l) ≡ true → (is_number k ≡ true) × (mem k l ≡ false)
    free_number k m = let e = and_yes (is_number k) (not (mem k l)) (sym (free_exactly l k) ∙ m) in (e.0, not-true (mem k l) e.1)

    apart : Apart (free_numbers l) (written l)
    apart k m = let f = free_number k m in mem_written k l (λ z. absurd (omega (arith, number_range k f.0))) ∙ f.1

    within : (k : ℕ) → mem k (fill (free_numbers l) l) ≡ true → (c : Bool) → mem k (written l) ≡ c → is_number k ≡ true
    within k m true c = written_number_lem l b k c
    within k m false c = go (mem k (free_numbers l)) refl (rw c at (sym (fill_mem k (free_numbers l) l (λ z. enough_free l h)) ∙ m))
      where
        go : (d : Bool) → mem k (free_numbers l) ≡ d → mem k (take (unwritten l) (free_numbers l)) ≡ true → is_number k ≡ true
        go true d t = (free_number k d).0
        go false d t = absurd (true≢false (sym t ∙ mem_take k (unwritten l) (free_numbers l) d))

-- ---- the free count: 65,535 less the number of questions

members_all : (n : List ℕ) → Own n → length (members n) ≡ length n
unfolding mem distinct
members_all [] v = ap length (pick_none (λ k. false) 65535 1 (λ k g h. refl))
members_all (q ∷ n) v =
    let e = and_yes (not (mem q n)) (distinct n) v.once in
    let b = number_range q (v.within q (rw (eq-eqb q q refl))) in
    omega (
      arith,
      count_or (λ k. eqb k q) (λ k. mem k n) 65535 1,
      ap length (pick_this q 1 65535 b.0 (omega arith)),
      ap length (pick_none (λ k. eqb k q && mem k n) 65535 1 (λ k g h. apart k (not-true (mem q n) e.0) (eqb k q) refl)),
      members_all n (record { within = λ k m. v.within k (rw (m, or-true (eqb k q))); once = e.1 }),
    )
  where
    apart : (k : ℕ) → mem q n ≡ false → (c : Bool) → eqb k q ≡ c → (c && mem k n) ≡ false
    apart k m true c = rw (eqb-true k q c) m
    apart k m false c = refl

pub free_left : (n : List ℕ) → Own n → free_count n + length n ≡ 65535
free_left n v = omega (arith, free_members n, members_all n v)

pub free_numbered : (l : List ℕ) → length l ≤ 65535 → Below l → distinct (written l) ≡ true → free_count (numbered l) + length l ≡ 65535
free_numbered l h b w = omega (arith, free_left (numbered l) (numbered_own l h b w), (numbering l).long)
