-- One step of each definition that goes along a list, at the place i of a list s: at the list's end, and at its next element.
-- Assumes nothing.
use mathlib.Core.Path.{◌≡◌, refl, ap, ◌∙◌}
use mathlib.Core.Bool.{Bool, true, false, ◌&&◌, ◌||◌}
use mathlib.Core.List.{List, [], ◌∷◌}
use Prim.Native.Nat.{ℕ, zero, suc, ◌+◌, ◌≤◌, ◌<◌, zero-le, suc-le-suc}
use native.Mathlib.Nat.{le_of_suc-le-suc}
use native.Mathlib.Omega.{arith}
use lib.Dec.{eqb, leb}
use lib.ListN.{length, get_or, take, drop}
use borrow.Author.Tests.{ne_eqb, le-leb, lt-leb, leb-true}
use Rattle.lexemes.specs.Bytes.{is_digit, is_letter, is_word_byte}
use Rattle.lexemes.specs.Words.{run, all, same}
use Rattle.lexemes.proofs.Lists.{either, and_true, and_false, from_end, from_next}

module _ (p : ℕ → Bool) where
  pub run_le : (s : List ℕ) → run p s ≤ length s
  unfolding run
  run_le [] = zero-le
  run_le (b ∷ s) = either (p b) (λ e. rw e (suc-le-suc (run_le s))) (λ e. rw e zero-le)

  -- a run takes every byte that it can
  pub run_stops : (s : List ℕ) → run p (drop (run p s) s) ≡ 0
  unfolding run
  run_stops [] = refl
  run_stops (b ∷ s) = either (p b) (λ e. rw e (run_stops s)) (λ e. rw (e, e))

  pub run_all : (s : List ℕ) → all p (take (run p s) s) ≡ true
  unfolding run all
  run_all [] = refl
  run_all (b ∷ s) = either (p b) (λ e. rw (e, e) (run_all s)) (λ e. rw e)

  -- bytes that pass the test, and after them one that does not
  pub run_is : (n : ℕ) (s : List ℕ) → n ≤ length s → all p (take n s) ≡ true → p (get_or s n 0) ≡ false → run p s ≡ n
  unfolding run all
  run_is zero [] h a o = refl
  run_is zero (b ∷ s) h a o = rw o
  run_is (suc n) [] h a o = absurd (omega arith)
  run_is (suc n) (b ∷ s) h a o =
      let both = and_true (p b) (all p (take n s)) a in
      rw both.0 (ap suc (run_is n s (le_of_suc-le-suc h) both.1 o))

module _ (p : ℕ → Bool) (s : List ℕ) (i : ℕ) where
  pub run_end : length s ≤ i → run p (drop i s) ≡ 0
  unfolding run
  run_end h = rw (from_end s i h)

  pub run_no : i < length s → p (get_or s i 0) ≡ false → run p (drop i s) ≡ 0
  unfolding run
  run_no h e = rw (from_next s i 0 h, e)

  pub run_yes : i < length s → p (get_or s i 0) ≡ true → run p (drop i s) ≡ suc (run p (drop (i + 1) s))
  unfolding run
  run_yes h e = rw (from_next s i 0 h, e)

  pub all_end : length s ≤ i → all p (drop i s) ≡ true
  unfolding all
  all_end h = rw (from_end s i h)

  pub all_no : i < length s → p (get_or s i 0) ≡ false → all p (drop i s) ≡ false
  unfolding all
  all_no h e = rw (from_next s i 0 h, e)

  pub all_yes : i < length s → p (get_or s i 0) ≡ true → all p (drop i s) ≡ all p (drop (i + 1) s)
  unfolding all
  all_yes h e = rw (from_next s i 0 h, e)

-- texts whose first bytes differ are not the same, 0 standing for no byte
pub same_first : (w v : List ℕ) → (get_or w 0 0 ≡ get_or v 0 0 → ⊥) → same w v ≡ false
unfolding same
same_first [] [] h = absurd (h refl)
same_first [] (b ∷ v) h = refl
same_first (a ∷ w) [] h = refl
same_first (a ∷ w) (b ∷ v) h = rw (ne_eqb a b h)

-- ---- the kinds of a byte

or_third : (d u l o : Bool) → l ≡ true → d || u || l || o ≡ true
or_third true u l o e = refl
or_third false true l o e = refl
or_third false false l o e = rw e

or_others : (d u l o : Bool) → l ≡ false → d || u || l || o ≡ d || u || o
or_others true u l o e = refl
or_others false true l o e = refl
or_others false false l o e = rw e

or_none : (d : Bool) → d || false ≡ d
or_none true = refl
or_none false = refl

module _ (b : ℕ) where
  abbrev is_small : Bool
  is_small = leb 97 b && leb b 122

  abbrev is_capital : Bool
  is_capital = leb 65 b && leb b 90

  pub small_word : is_small ≡ true → is_word_byte b ≡ true
  small_word e = or_third (is_digit b) is_capital is_small (eqb b 95) e

  pub other_word : is_small ≡ false → is_word_byte b ≡ is_digit b || is_capital || eqb b 95
  other_word e = or_others (is_digit b) is_capital is_small (eqb b 95) e

  pub digit_word : is_digit b ≡ true → is_word_byte b ≡ true
  digit_word e = rw e

  pub digit_range : is_digit b ≡ true → (48 ≤ b) × (b ≤ 57)
  digit_range e = let both = and_true (leb 48 b) (leb b 57) e in (leb-true 48 b both.0, leb-true b 57 both.1)

  pub low_word : b < 48 → is_word_byte b ≡ false
  low_word h = rw (lt-leb 48 b h, lt-leb 65 b (omega arith), lt-leb 97 b (omega arith), ne_eqb b 95 (λ e. omega arith))

  pub middle_word : 48 ≤ b → b < 65 → is_word_byte b ≡ leb b 57
  middle_word l h =
      rw (le-leb 48 b l, lt-leb 65 b h, lt-leb 97 b (omega arith), ne_eqb b 95 (λ e. omega arith))
      (or_none (leb b 57 || false || false) ∙ or_none (leb b 57 || false) ∙ or_none (leb b 57))

  pub high_word : 65 ≤ b → is_word_byte b ≡ is_letter b || eqb b 95
  high_word h = rw (lt-leb b 57 (omega arith), and_false (leb 48 b) false refl)

-- digits that no word byte follows are the whole word
pub digits_run : (s : List ℕ) → is_word_byte (get_or s (run is_digit s) 0) ≡ false → run is_word_byte s ≡ run is_digit s
unfolding run
digits_run [] h = refl
digits_run (b ∷ s) h =
    either (is_digit b)
    (λ e. let more : is_word_byte (get_or s (run is_digit s) 0) ≡ false = rw e at h in rw (digit_word b e, e) (ap suc (digits_run s more)))
    (λ e. let none : is_word_byte b ≡ false = rw e at h in rw (none, e))
