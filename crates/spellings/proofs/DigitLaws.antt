-- The digits of numbers, one by one.
-- Assumes nothing.
use Prim.Native.Nat.{ℕ, zero, suc, ◌+◌, ◌*◌, ◌-◌, ◌/◌, ◌%◌, ◌^◌, ◌≤◌, ◌<◌}
use native.Mathlib.Nat.{pow-le-pow_right, div-eq_of_lt}
use native.Mathlib.Omega.{arith}
use mathlib.Core.Path.{◌≡◌, refl, sym, ◌∙◌}
use mathlib.Core.Bool.{Bool, true, cond, ◌&&◌}
use mathlib.Core.List.{List, [], ◌∷◌, ◌++◌, append_assoc, append-nil}
use lib.Dec.{eqb, ltb}
use lib.ListN.{length, get_or}
use borrow.Author.Tests.{lt-ltb, le-ltb, ne_eqb, eqb-true}
use Rattle.std.specs.Fmt.{decimal}
use Rattle.std.proofs.lemmas.Fmt.{decimal_digit, decimal_step, length-decimal-le}
use Rattle.std.proofs.lemmas.Nat.{pow-add}
use Rattle.std.proofs.Math.Nat.{pow-suc}
use Rattle.lexemes.specs.Words.{same}
use Rattle.lexemes.proofs.Lists.{either_less, and_true}
use Rattle.answers.specs.Text.{gap_after, decimal_digits, hex_digits}

-- ---- a test over the first numbers

abbrev pub up_to : ℕ → (ℕ → Bool) → Bool
up_to zero p = true
up_to (suc n) p = p n && up_to n p

pub below : (p : ℕ → Bool) (n k : ℕ) → up_to n p ≡ true → k < n → p k ≡ true
below p zero k t h = absurd (omega arith)
below p (suc n) k t h =
    let both = and_true (p n) (up_to n p) t in
    either_less k n (λ l. below p n k both.1 l) (λ l. let e : k ≡ n = omega arith in rw e both.0)

-- ---- decimal digits

digits_last : (m n : ℕ) (later : List ℕ) → n < 10 → decimal_digits (suc m) n later ≡ (48 + n) ∷ later
unfolding decimal_digits
digits_last m n later h = rw (lt-ltb n 10 h)

digits_next : (m n : ℕ) (later : List ℕ) → 10 ≤ n → decimal_digits (suc m) n later ≡ decimal_digits m (n / 10) ((48 + n % 10) ∷ later)
unfolding decimal_digits
digits_next m n later h = rw (le-ltb n 10 h)

-- the first number is only asked to be enough
digits_enough : (m k n : ℕ) (later : List ℕ) → n < m → n < k → decimal_digits m n later ≡ decimal_digits k n later
digits_enough zero k n later h l = absurd (omega arith)
digits_enough (suc m) zero n later h l = absurd (omega arith)
digits_enough (suc m) (suc k) n later h l =
    either_less n 10 (λ d. digits_last m n later d ∙ sym (digits_last k n later d))
    (λ d. digits_next m n later d ∙ digits_enough m k (n / 10) ((48 + n % 10) ∷ later) (omega arith) (omega arith) ∙ sym (digits_next k n later d))

-- a digit less
digits_step : (n : ℕ) (later : List ℕ) → 10 ≤ n → decimal_digits (suc n) n later ≡ decimal_digits (suc (n / 10)) (n / 10) ((48 + n % 10) ∷ later)
digits_step n later h = digits_next n n later h ∙ digits_enough n (suc (n / 10)) (n / 10) ((48 + n % 10) ∷ later) (omega arith) (omega arith)

-- of a number below 10, 100, 1000, 10000
more_digits : (n c : ℕ) (later : List ℕ) → 10 ≤ n → ((l : List ℕ) → length (decimal_digits (suc (n / 10)) (n / 10) l) ≡ c + length l) → length (decimal_digits (suc n) n later) ≡ suc c + length later
more_digits n c later h f = let q = f ((48 + n % 10) ∷ later) in rw (digits_step n later h) (omega (arith, q))

pub one_digit : (n : ℕ) (later : List ℕ) → n < 10 → length (decimal_digits (suc n) n later) ≡ 1 + length later
one_digit n later h = rw (digits_last n n later h) (omega arith)

pub two_digits : (n : ℕ) (later : List ℕ) → 10 ≤ n → n < 100 → length (decimal_digits (suc n) n later) ≡ 2 + length later
two_digits n later h g = more_digits n 1 later h (λ l. one_digit (n / 10) l (omega arith))

pub three_digits : (n : ℕ) (later : List ℕ) → 100 ≤ n → n < 1000 → length (decimal_digits (suc n) n later) ≡ 3 + length later
three_digits n later h g = more_digits n 2 later (omega arith) (λ l. two_digits (n / 10) l (omega arith) (omega arith))

pub four_digits : (n : ℕ) (later : List ℕ) → 1000 ≤ n → n < 10000 → length (decimal_digits (suc n) n later) ≡ 4 + length later
four_digits n later h g = more_digits n 3 later (omega arith) (λ l. three_digits (n / 10) l (omega arith) (omega arith))

-- std's digits are the same ones
pub digits_are : (m n : ℕ) (later : List ℕ) → n < m → n < 2 ^ 64 → decimal_digits m n later ≡ decimal n ++ later
digits_are zero n later h w = absurd (omega arith)
digits_are (suc m) n later h w =
    either_less n 10 (λ d. digits_last m n later d ∙ sym (rw (decimal_digit n d)))
    (λ d.
    let step = decimal_step n d w in
    digits_next m n later d ∙ digits_are m (n / 10) ((48 + n % 10) ∷ later) (omega arith) (omega arith) ∙ sym (rw step (append_assoc (decimal (n / 10)) ((48 + n % 10) ∷ []) later)))

pub digits_few : (n : ℕ) → n < 2 ^ 64 → length (decimal_digits (suc n) n []) ≤ 20
digits_few n h = rw (digits_are (suc n) n [] (omega arith) h, append-nil (decimal n)) (length-decimal-le 20 n (omega arith) (omega arith) h)

-- ---- what stands after a number

-- a word that does not start with `;`
pub gap_space : (b : ℕ) (w : List ℕ) → (b ≡ 59 → ⊥) → gap_after (b ∷ w) ≡ 32
unfolding same
gap_space b w h = rw (ne_eqb b 59 h)

starts_digit : (m n : ℕ) (b : ℕ) (later : List ℕ) → (b ≡ 59 → ⊥) → gap_after (decimal_digits m n (b ∷ later)) ≡ 32
unfolding decimal_digits
starts_digit zero n b later h = gap_space b later h
starts_digit (suc m) n b later h =
    either_less n 10 (λ d. rw (digits_last m n (b ∷ later) d) (gap_space (48 + n) (b ∷ later) (λ e. omega arith)))
    (λ d. rw (digits_next m n (b ∷ later) d) (starts_digit m (n / 10) (48 + n % 10) (b ∷ later) (λ e. omega arith)))

pub digits_gap : (n : ℕ) → gap_after (decimal_digits (suc n) n []) ≡ 32
digits_gap n =
    either_less n 10 (λ d. rw (digits_last n n [] d) (gap_space (48 + n) [] (λ e. omega arith)))
    (λ d. rw (digits_next n n [] d) (starts_digit n (n / 10) (48 + n % 10) [] (λ e. omega arith)))

-- ---- hex digits

-- the digit d
abbrev glyphs : List ℕ
glyphs = 48 ∷ 49 ∷ 50 ∷ 51 ∷ 52 ∷ 53 ∷ 54 ∷ 55 ∷ 56 ∷ 57 ∷ 97 ∷ 98 ∷ 99 ∷ 100 ∷ 101 ∷ 102 ∷ []

abbrev glyph : ℕ → ℕ
glyph d = cond (ltb d 10) (48 + d) (87 + d)

glyphs_checked : up_to 16 (λ d. eqb (get_or glyphs d 0) (glyph d)) ≡ true
glyphs_checked = refl

pub glyph_at : (d : ℕ) → d < 16 → get_or glyphs d 0 ≡ glyph d
glyph_at d h = eqb-true _ _ (below (λ k. eqb (get_or glyphs k 0) (glyph k)) 16 d glyphs_checked h)

-- the one with k after it
abbrev pub hex_at : ℕ → ℕ → ℕ
hex_at n k = cond (ltb (n / 16 ^ k % 16) 10) (48 + n / 16 ^ k % 16) (87 + n / 16 ^ k % 16)

shift_is : (k : ℕ) → 2 ^ (4 * k) ≡ 16 ^ k
shift_is zero = refl
shift_is (suc k) = let e : 4 * suc k ≡ 4 * k + 4 = omega arith in rw e (pow-add 2 (4 * k) 4 ∙ rw (shift_is k) (sym (pow-suc 16 k) ∙ refl))

pub hex_shifted : (n k : ℕ) → get_or glyphs (n / 2 ^ (4 * k) % 16) 0 ≡ hex_at n k
hex_shifted n k = rw (shift_is k) (glyph_at (n / 16 ^ k % 16) (omega arith))

pub hex_at_lem : (n k : ℕ) {p d b : ℕ} → p ≡ 16 ^ k → d ≡ n / p % 16 → b ≡ cond (ltb d 10) (48 + d) (87 + d) → b ≡ hex_at n k
hex_at_lem n k e f g = rw (g, f, e)

-- a number has at most sixteen
pub hex_past : (n k : ℕ) → n < 2 ^ 64 → 16 ≤ k → 48 ≡ hex_at n k
hex_past n k h l = let few : 16 ^ 16 ≤ 16 ^ k = pow-le-pow_right (omega arith) l in rw (div-eq_of_lt {n = n} {m = 16 ^ k} (omega (arith, few)))

pub hex_next : (m n k : ℕ) {b : ℕ} → k < m → b ≡ hex_at n (m - 1 - k) → hex_digits (m - k) n ≡ (b ∷ []) ++ hex_digits (m - (k + 1)) n
unfolding hex_digits
hex_next m n k h f =
    let e : m - k ≡ suc (m - 1 - k) = omega arith in
    let g : m - (k + 1) ≡ m - 1 - k = omega arith in
    rw (e, g, f)

pub hex_none : (m n k : ℕ) → m ≤ k → hex_digits (m - k) n ≡ []
unfolding hex_digits
hex_none m n k h = let e : m - k ≡ 0 = omega arith in rw e
