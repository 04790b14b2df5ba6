-- Decimal and hex digits: their values, their bytes, and how many there are.
-- Assumes nothing.
use mathlib.Core.Path.{◌≡◌, refl, ap, sym, ◌∙◌}
use mathlib.Core.List.{List, [], ◌∷◌}
use mathlib.Core.Bool.{true, cond}
use Prim.Native.Nat.{ℕ, zero, suc, ◌+◌, ◌*◌, ◌/◌, ◌%◌, ◌^◌, ◌≤◌, ◌<◌}
use native.Mathlib.Nat.{le_refl, pow-succ', mod-one, mul_assoc, add-mul, one-le-pow}
use native.Mathlib.Omega.{arith}
use lib.Arith.{mod-mul}
use lib.Dec.{ltb}
use lib.ListN.{length}
use borrow.Author.Tests.{lt-ltb, le-ltb, le-leb, lt-leb}
use Rattle.lexemes.specs.Bytes.{is_digit, is_hex_digit}
use Rattle.lexemes.specs.Words.{all}
use Rattle.values.specs.Numbers.{digit_value, value_from}
use Rattle.lexemes.proofs.Lists.{either_less}
use Rattle.answers.specs.Text.{decimal_digits, hex_digits}
use Rattle.printing.specs.Spelling.{decimal_word}

-- ---- one digit

abbrev hex_digit : ℕ → ℕ
hex_digit d = cond (ltb d 10) (48 + d) (87 + d)

digit_value_lem : (d : ℕ) → d < 10 → digit_value (48 + d) ≡ d
digit_value_lem d h = rw (lt-ltb (48 + d) 58 (omega arith)) (omega arith)

hex_digit_value : (d : ℕ) → d < 16 → digit_value (hex_digit d) ≡ d
hex_digit_value d h =
    either_less d 10
    (λ l. rw (lt-ltb d 10 l) (digit_value_lem d l))
    (λ l. rw (le-ltb d 10 l, le-ltb (87 + d) 58 (omega arith), le-ltb (87 + d) 71 (omega arith)) (omega arith))

digit_byte : (d : ℕ) → d < 10 → is_digit (48 + d) ≡ true
digit_byte d h = rw (le-leb 48 (48 + d) (omega arith), le-leb (48 + d) 57 (omega arith))

hex_digit_byte : (d : ℕ) → d < 16 → is_hex_digit (hex_digit d) ≡ true
hex_digit_byte d h =
    either_less d 10
    (λ l. rw (lt-ltb d 10 l, le-leb 48 (48 + d) (omega arith), le-leb (48 + d) 57 (omega arith)))
    (λ l.
    rw (le-ltb d 10 l, le-leb 48 (87 + d) (omega arith), lt-leb (87 + d) 57 (omega arith), le-leb 65 (87 + d) (omega arith), lt-leb (87 + d) 70 (omega arith), le-leb 97 (87 + d) (omega arith), le-leb (87 + d) 102 (omega arith)))

-- ---- decimal digits

-- n digits of a number below n, before later ones
decimal_value_before : (n v : ℕ) (later : List ℕ) → v < n → value_from 10 0 (decimal_digits n v later) ≡ value_from 10 v later
unfolding decimal_digits value_from
decimal_value_before zero v later h = absurd (omega arith)
decimal_value_before (suc n) v later h =
    either_less v 10
    (λ l. rw (lt-ltb v 10 l) (ap (λ (x : ℕ). value_from 10 x later) (rw (digit_value_lem v l) (omega arith))))
    (λ l.
    let last : v / 10 * 10 + digit_value (48 + v % 10) ≡ v = rw (digit_value_lem (v % 10) (omega arith)) (omega arith) in
    rw (le-ltb v 10 l) (decimal_value_before n (v / 10) ((48 + v % 10) ∷ later) (omega arith) ∙ ap (λ (x : ℕ). value_from 10 x later) last))

decimal_bytes_before : (n v : ℕ) (later : List ℕ) → all is_digit later ≡ true → all is_digit (decimal_digits n v later) ≡ true
unfolding decimal_digits all
decimal_bytes_before zero v later h = h
decimal_bytes_before (suc n) v later h =
    either_less v 10
    (λ l. rw (lt-ltb v 10 l, digit_byte v l) h)
    (λ l. rw (le-ltb v 10 l) (decimal_bytes_before n (v / 10) ((48 + v % 10) ∷ later) (rw (digit_byte (v % 10) (omega arith)) h)))

decimal_longer : (n v : ℕ) (later : List ℕ) → length later ≤ length (decimal_digits n v later)
unfolding decimal_digits
decimal_longer zero v later = le_refl (length later)
decimal_longer (suc n) v later =
    either_less v 10
    (λ l. rw (lt-ltb v 10 l) (omega arith))
    (λ l. rw (le-ltb v 10 l) (omega (arith, decimal_longer n (v / 10) ((48 + v % 10) ∷ later))))

module _ (v : ℕ) where
  pub decimal_value : value_from 10 0 (decimal_word v) ≡ v
  unfolding value_from
  decimal_value = decimal_value_before (suc v) v [] (le_refl (suc v))

  pub decimal_bytes : all is_digit (decimal_word v) ≡ true
  unfolding all
  decimal_bytes = decimal_bytes_before (suc v) v [] refl

  -- there is at least one digit
  pub decimal_some : 0 < length (decimal_word v)
  unfolding decimal_digits
  decimal_some =
      either_less v 10
      (λ l. rw (lt-ltb v 10 l) (omega arith))
      (λ l. rw (le-ltb v 10 l) (omega (arith, decimal_longer v (v / 10) ((48 + v % 10) ∷ []))))

-- other numbers have other digits
pub decimal_injective : (m n : ℕ) → decimal_word m ≡ decimal_word n → m ≡ n
decimal_injective m n e = sym (decimal_value m) ∙ ap (value_from 10 0) e ∙ decimal_value n

-- ---- hex digits

pub hex_length : (width v : ℕ) → length (hex_digits width v) ≡ width
unfolding hex_digits
hex_length zero v = refl
hex_length (suc m) v = ap suc (hex_length m v)

pub hex_bytes : (width v : ℕ) → all is_hex_digit (hex_digits width v) ≡ true
unfolding hex_digits all
hex_bytes zero v = refl
hex_bytes (suc m) v = rw (hex_digit_byte (v / 16 ^ m % 16) (omega arith)) (hex_bytes m v)

-- after digits of the value a
hex_value_after : (width v a : ℕ) → value_from 16 a (hex_digits width v) ≡ a * 16 ^ width + v % 16 ^ width
unfolding hex_digits value_from
hex_value_after zero v a = rw mod-one (omega arith)
hex_value_after (suc m) v a =
    let d = v / 16 ^ m % 16 in
    let here : a * 16 * 16 ^ m ≡ a * 16 ^ suc m = rw (pow-succ' 16 m) (mul_assoc a 16 (16 ^ m)) in
    let low : v % 16 ^ suc m ≡ d * 16 ^ m + v % 16 ^ m = rw (pow-succ' 16 m) (mod-mul v {m = 16} {c = 16 ^ m} (omega arith) (one-le-pow m 16 (omega arith))) in
    ap (λ (x : ℕ). value_from 16 (a * 16 + x) (hex_digits m v)) (hex_digit_value d (omega arith))
    ∙ hex_value_after m v (a * 16 + d)
    ∙ rw (add-mul (a * 16) d (16 ^ m)) (omega arith)

pub hex_value : (width v : ℕ) → value_from 16 0 (hex_digits width v) ≡ v % 16 ^ width
hex_value width v = omega (arith, hex_value_after width v 0)
