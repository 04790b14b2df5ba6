-- The value of digits, one digit after the other, against what 64 bits hold.
-- Assumes nothing.
use mathlib.Core.Path.{◌≡◌, refl, sym, ap}
use mathlib.Core.Bool.{Bool, true, false}
use mathlib.Core.List.{List, [], ◌∷◌}
use Prim.Native.Nat.{ℕ, zero, suc, ◌+◌, ◌-◌, ◌*◌, ◌^◌, ◌≤◌, ◌<◌}
use native.Mathlib.Nat.{le_refl, le_trans, le-mul_of_pos_right, mul-le-mul_right}
use native.Mathlib.Omega.{arith}
use lib.ListN.{length, get_or, take, drop}
use lib.Seq.{get_or-drop}
use borrow.Author.Tests.{lt-ltb, le-ltb, ne_eqb}
use Rattle.std.specs.Prelude.{Some, None}
use Rattle.lexemes.specs.Bytes.{is_digit, is_word_byte}
use Rattle.lexemes.specs.Words.{run, all, word}
use Rattle.values.specs.Numbers.{digit_value, value_from, marks_hex, numeral, fitted, value_at}
use Rattle.lexemes.proofs.Lists.{either, either_less, from_end, from_next}
use Rattle.lexemes.proofs.Steps.{digit_word, digit_range}
use Rattle.lexemes.proofs.WordParts.{word_next, word_empty}

all_each : (p : ℕ → Bool) (s : List ℕ) → ((k : ℕ) → k < length s → p (get_or s k 0) ≡ true) → all p s ≡ true
unfolding all
all_each p [] h = refl
all_each p (b ∷ s) h = rw (h 0 (omega arith)) (all_each p s (λ k l. h (suc k) (omega arith)))

all_some : (p : ℕ → Bool) (s : List ℕ) (k : ℕ) → k < length s → p (get_or s k 0) ≡ false → all p s ≡ false
unfolding all
all_some p [] k l h = absurd (omega arith)
all_some p (b ∷ s) zero l h = rw h
all_some p (b ∷ s) (suc k) l h = either (p b) (λ e. rw e (all_some p s k (omega arith) h)) (λ e. rw e)

-- what a test of every byte tells: that each passes, or that one does not
pub all_told : (p : ℕ → Bool) (s : List ℕ) (told : Bool)
    → (told ≡ true → (k : ℕ) → k < length s → p (get_or s k 0) ≡ true)
    → (told ≡ false → (k : ℕ) × (k < length s) × (p (get_or s k 0) ≡ false)) → told ≡ all p s
all_told p s true each some = sym (all_each p s (each refl))
all_told p s false each some = let one = some refl in sym (all_some p s one.0 one.1 one.2)

pub fitted_fits : (v : ℕ) → v < 2 ^ 64 → fitted v ≡ Some v
fitted_fits v h = rw (lt-ltb v (2 ^ 64) h)

pub fitted_large : (v : ℕ) → 2 ^ 64 ≤ v → fitted v ≡ None
fitted_large v h = rw (le-ltb v (2 ^ 64) h)

-- `limit` is the largest number whose product with the base fits
pub product_large : (base limit v : ℕ) → 2 ^ 64 ≤ limit * base + base → limit < v → 2 ^ 64 ≤ v * base
product_large base limit v top h = omega (arith, mul-le-mul_right base h)

pub product_fits : (base limit v : ℕ) → limit * base < 2 ^ 64 → v ≤ limit → v * base < 2 ^ 64
product_fits base limit v top h = omega (arith, mul-le-mul_right base h)

-- digits from the place i on, after digits of the value v
module _ (base v : ℕ) (s : List ℕ) (i : ℕ) where
  pub value_end : length s ≤ i → value_from base v (drop i s) ≡ v
  unfolding value_from
  value_end h = rw (from_end s i h)

  pub value_next : (d : ℕ) → d ≡ digit_value (get_or s i 0) → i < length s → value_from base v (drop i s) ≡ value_from base (v * base + d) (drop (i + 1) s)
  unfolding value_from
  value_next d is_d h = rw (from_next s i 0 h, is_d)

-- more digits make no smaller number
value_ge : (base : ℕ) → 0 < base → (s : List ℕ) (v : ℕ) → v ≤ value_from base v s
unfolding value_from
value_ge base pos [] v = le_refl v
value_ge base pos (b ∷ s) v = le_trans (omega (arith, le-mul_of_pos_right v pos)) (value_ge base pos s (v * base + digit_value b))

-- a number that is too large after the digit at i is too large as a whole
pub value_large : (base v : ℕ) (s : List ℕ) (i d : ℕ) →
    0 < base → d ≡ digit_value (get_or s i 0) → i < length s → 2 ^ 64 ≤ v * base + d → 2 ^ 64 ≤ value_from base v (drop i s)
value_large base v s i d pos is_d h large =
    omega (arith, value_next base v s i d is_d h, value_ge base pos (drop (i + 1) s) (v * base + d))

-- ---- decimal digits, up to the end of the word

module _ (s : List ℕ) (i v : ℕ) where
  pub value_digit : (d : ℕ) → is_digit (get_or s i 0) ≡ true → d ≡ get_or s i 0 - 48 → value_from 10 v (word (drop i s)) ≡ value_from 10 (v * 10 + d) (word (drop (i + 1) s))
  unfolding value_from
  value_digit d digit is_d =
      let small : get_or s i 0 < 58 = omega (arith, digit_range (get_or s i 0) digit) in
      let is_digit_lem : digit_value (get_or s i 0) ≡ d = rw (lt-ltb (get_or s i 0) 58 small) (sym is_d) in
      rw (word_next s i (digit_word (get_or s i 0) digit)) (ap (λ (x : ℕ). value_from 10 (v * 10 + x) (word (drop (i + 1) s))) is_digit_lem)

  pub value_word_end : is_word_byte (get_or s i 0) ≡ false → value_from 10 v (word (drop i s)) ≡ v
  unfolding value_from
  value_word_end e = rw (word_empty s i e)

-- the second byte of a word is the source's, or there is none
second_byte : (n : ℕ) (t : List ℕ) → (get_or t 1 0 ≡ 120 → ⊥) → get_or (take n t) 1 0 ≡ 120 → ⊥
second_byte zero t d e = omega arith
second_byte (suc n) [] d e = omega arith
second_byte (suc zero) (x ∷ t) d e = omega arith
second_byte (suc (suc n)) (x ∷ []) d e = omega arith
second_byte (suc (suc n)) (x ∷ y ∷ t) d e = d e

module _ (s : List ℕ) (at : ℕ) where
  pub no_hex : (get_or s (at + 1) 0 ≡ 120 → ⊥) → marks_hex (word (drop at s)) ≡ false
  no_hex h = ne_eqb _ 120 (second_byte (run is_word_byte (drop at s)) (drop at s) (λ e. h (rw get_or-drop at e)))

  pub value_start : marks_hex (word (drop at s)) ≡ false → value_at s at ≡ fitted (value_from 10 0 (word (drop at s)))
  unfolding value_at numeral
  value_start e = rw e

  pub value_past : length s ≤ at → Some 0 ≡ value_at s at
  unfolding value_at numeral value_from run
  value_past h = rw (from_end s at h)

-- ---- the number at a place

-- its value fits exactly where its numeral is below 2^64, and is then the numeral
module _ (s : List ℕ) (at : ℕ) where
  abbrev n : ℕ
  n = numeral (word (drop at s))

  pub value_fits : n < 2 ^ 64 → value_at s at ≡ Some n
  unfolding value_at
  value_fits h = fitted_fits n h

  pub value_too_large : 2 ^ 64 ≤ n → value_at s at ≡ None
  unfolding value_at
  value_too_large h = fitted_large n h

  pub fits_value : (v : ℕ) → value_at s at ≡ Some v → (n < 2 ^ 64) × (v ≡ n)
  fits_value v e =
      either_less n (2 ^ 64)
      (λ h. let fits = value_fits h in (h, cc))
      (λ h. let large = value_too_large h in absurd (let z : ◌≡◌ {A = ℕ} 0 1 = cc in omega arith))

  pub too_large_value : value_at s at ≡ None → 2 ^ 64 ≤ n
  too_large_value e =
      either_less n (2 ^ 64)
      (λ h. let fits = value_fits h in absurd (let z : ◌≡◌ {A = ℕ} 0 1 = cc in omega arith))
      (λ h. h)
