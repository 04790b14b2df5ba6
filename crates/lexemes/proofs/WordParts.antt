-- The word at a place of a source: its part of the slice, its length, and its bytes one by one.
-- Assumes nothing.
use mathlib.Core.Path.{◌≡◌, sym, ◌∙◌}
use mathlib.Core.Bool.{true, false, false≢true}
use mathlib.Core.List.{List, [], ◌∷◌}
use Prim.Native.Nat.{ℕ, ◌+◌, ◌-◌, ◌≤◌, ◌<◌}
use native.Mathlib.Omega.{arith}
use lib.Dec.{eqb}
use lib.ListN.{length, get_or, take, drop, length-drop, get_or-eq_default}
use lib.Seq.{length-take-le, drop-drop}
use borrow.Author.Tests.{eq-eqb, eqb-true, eqb-false}
use Rattle.lexemes.specs.Bytes.{is_word_byte}
use Rattle.lexemes.specs.Words.{run, same, word, same_word}
use Rattle.lexemes.proofs.Lists.{either, either_less, inside, from_end, from_next}
use Rattle.lexemes.proofs.Steps.{run_le, run_yes, run_stops, same_first}

pub word_length : (s : List ℕ) → length (word s) ≡ run is_word_byte s
word_length s = length-take-le (run is_word_byte s) s (run_le is_word_byte s)

pub word_some : (b : ℕ) (s : List ℕ) → is_word_byte b ≡ true → 0 < length (word (b ∷ s))
unfolding run
word_some b s e = rw e (omega arith)

-- the word that starts at `at` ends at e
module _ (s : List ℕ) (at e : ℕ) where
  pub word_inside : at ≤ length s → e ≡ at + run is_word_byte (drop at s) → e ≤ length s
  word_inside h is_e = omega (arith, run_le is_word_byte (drop at s), length-drop at s)

  pub word_part : e ≡ at + run is_word_byte (drop at s) → take (e - at) (drop at s) ≡ word (drop at s)
  word_part is_e = let n : e - at ≡ run is_word_byte (drop at s) = omega arith in rw n

  pub word_end_is : e ≡ at + run is_word_byte (drop at s) → e ≡ at + length (word (drop at s))
  word_end_is is_e = omega (arith, word_length (drop at s))

-- the word that starts at i, byte by byte; `first` is its first byte, 0 where it has none
module _ (s : List ℕ) (i : ℕ) where
  abbrev pub first : ℕ
  first = get_or (word (drop i s)) 0 0

  pub byte_inside : is_word_byte (get_or s i 0) ≡ true → i < length s
  byte_inside e = inside s i (λ zero. let never : false ≡ true = rw zero at e in false≢true never)

  pub word_next : is_word_byte (get_or s i 0) ≡ true → word (drop i s) ≡ get_or s i 0 ∷ word (drop (i + 1) s)
  unfolding run
  word_next e = rw (from_next s i 0 (byte_inside e), e)

  pub word_empty : is_word_byte (get_or s i 0) ≡ false → word (drop i s) ≡ []
  unfolding run
  word_empty e = either_less i (length s) (λ h. rw (from_next s i 0 h, e)) (λ h. rw (from_end s i h))

  -- no word byte follows a word
  pub word_stops : is_word_byte (get_or s (i + run is_word_byte (drop i s)) 0) ≡ false
  word_stops =
      either (is_word_byte (get_or s (i + run is_word_byte (drop i s)) 0))
      (λ e.
      let past = i + run is_word_byte (drop i s) in
      let stop : run is_word_byte (drop past s) ≡ 0 = rw drop-drop at (run_stops is_word_byte (drop i s)) in
      let here : past < length s = inside s past (λ zero. let never : false ≡ true = rw zero at e in false≢true never) in
      absurd (omega (arith, run_yes is_word_byte s past here e)))
      (λ e. e)

  pub first_byte : is_word_byte (get_or s i 0) ≡ true → first ≡ get_or s i 0
  first_byte e = rw (word_next e)

  pub first_none : is_word_byte (get_or s i 0) ≡ false → first ≡ 0
  first_none e = rw (word_empty e)

  -- no letter, digit or `_` is 0, so that the word ends exactly where its first byte is 0
  word_byte : (first ≡ 0 → ⊥) → is_word_byte (get_or s i 0) ≡ true
  word_byte h = either (is_word_byte (get_or s i 0)) (λ e. e) (λ e. absurd (h (first_none e)))

  pub word_ends : first ≡ 0 → word (drop i s) ≡ []
  word_ends h =
      either (is_word_byte (get_or s i 0))
      (λ e. let never : false ≡ true = rw (sym (first_byte e) ∙ h) at e in absurd (false≢true never))
      (λ e. word_empty e)

  pub word_goes_on : (first ≡ 0 → ⊥) → word (drop i s) ≡ first ∷ word (drop (i + 1) s)
  word_goes_on h = rw (first_byte (word_byte h)) (word_next (word_byte h))

-- the words that start at i and at j, compared byte by byte
module _ (s : List ℕ) (i j : ℕ) where
  pub words_differ : (first s i ≡ first s j → ⊥) → same_word s i j ≡ false
  unfolding same_word
  words_differ h = same_first (word (drop i s)) (word (drop j s)) h

  words_end : first s i ≡ 0 → first s j ≡ 0 → same_word s i j ≡ true
  unfolding same_word same
  words_end h l = rw (word_ends s i h, word_ends s j l)

  -- where their bytes differ they are the same only if both end
  pub words_apart : (get_or s i 0 ≡ get_or s j 0 → ⊥) → eqb (first s i) (first s j) ≡ same_word s i j
  words_apart h =
      either (eqb (first s i) (first s j))
      (λ e.
      let q = eqb-true (first s i) (first s j) e in
      either (eqb (first s i) 0)
      (λ z. let none = eqb-true (first s i) 0 z in e ∙ sym (words_end none (sym q ∙ none)))
      (λ z.
      let some = eqb-false (first s i) 0 z in
      absurd (h (sym (first_byte s i (word_byte s i some)) ∙ q ∙ first_byte s j (word_byte s j (λ zero. some (q ∙ zero)))))))
      (λ e. e ∙ sym (words_differ (eqb-false (first s i) (first s j) e)))

  module _ (e : get_or s i 0 ≡ get_or s j 0) where
    pub words_end_here : is_word_byte (get_or s i 0) ≡ false → same_word s i j ≡ true
    words_end_here h = words_end (first_none s i h) (first_none s j (rw e at h))

    pub words_go_on : is_word_byte (get_or s i 0) ≡ true → same_word s i j ≡ same_word s (i + 1) (j + 1)
    unfolding same_word same
    words_go_on h = let l : is_word_byte (get_or s j 0) ≡ true = rw e at h in rw (word_next s i h, word_next s j l, eq-eqb (get_or s i 0) (get_or s j 0) e)

  -- past the source there is no word
  pub words_past : length s ≤ i → eqb (first s j) 0 ≡ same_word s i j
  words_past h =
      either (eqb (first s j) 0)
      (λ e. e ∙ sym (words_end no_first (eqb-true (first s j) 0 e)))
      (λ e. e ∙ sym (words_differ (λ e'. eqb-false (first s j) 0 e (sym e' ∙ no_first))))
    where
      no_first : first s i ≡ 0
      no_first = first_none s i (rw (get_or-eq_default s 0 h))
