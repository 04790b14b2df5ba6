-- A word's binary digits under `|`, `<<`, `!` and `>>`, and its trailing zeros.
use mathlib.Core.Path.{◌≡◌, refl, sym, ap, ◌∙◌}
use Prim.Native.Nat.{ℕ, zero, suc, ◌+◌, ◌-◌, ◌*◌, ◌/◌, ◌%◌, ◌^◌, ◌≤◌, ◌<◌, suc-le-suc, zero-le, max}
use native.Mathlib.Nat.{pow-suc, one-mul, max-le, mod-lt, div-eq_of_lt, le_of_suc-le-suc, lt_of_lt_of_le, lt_of_not-le, zero-lt-suc}
use native.Mathlib.Numerals.{one-add}
use native.Mathlib.Omega.{arith}
use lib.Arith.{digits_mod}
use lib.Pow.{pow_mono, pow-lt, shr-shr, shl-shr, shl_exact, shr_le}
use lib.Bits.{bit_or, or_step, or_shr}
use lib.Count.{count_trailing_zeros, under}
use Rattle.numbers.specs.Numbers.{digit}

-- the digits above the lowest are those of the half
pub digit_suc : (w j : ℕ) → digit w (suc j) ≡ digit (w / 2) j
digit_suc w j = ap (λ (x : ℕ). x % 2) (sym (shr-shr w 1 j ∙ ap (λ (n : ℕ). w / 2 ^ n) (one-add j)))

pub digit_le : (w j : ℕ) → digit w j ≤ 1
digit_le w j = le_of_suc-le-suc (mod-lt (w / 2 ^ j) (zero-lt-suc 1))

-- a number of K digits has none past them
pub digit_past : (K w j : ℕ) → w < 2 ^ K → K ≤ j → digit w j ≡ 0
digit_past K w j h l = rw (div-eq_of_lt (lt_of_lt_of_le h (pow_mono l)))

pub digit_shr : (w s j : ℕ) → digit (w / 2 ^ s) j ≡ digit w (s + j)
digit_shr w s j = ap (λ (x : ℕ). x % 2) (shr-shr w s j)

pub digit_or : (a b j : ℕ) → digit (bit_or a b) j ≡ max (digit a j) (digit b j)
digit_or a b j =
    ap (λ (x : ℕ). x % 2) (or_shr a b j ∙ or_step (a / 2 ^ j) (b / 2 ^ j))
    ∙ digits_mod (bit_or (a / 2 ^ j / 2) (b / 2 ^ j / 2)) (suc-le-suc (max-le (digit_le a j) (digit_le b j)))

-- ---- a word with one digit set

pub bit_same : (s : ℕ) → digit (2 ^ s) s ≡ 1
bit_same s = ap (λ (x : ℕ). digit x s) (sym (one-mul (2 ^ s))) ∙ rw (shl-shr 1 s)

pub bit_other : (j s : ℕ) → (j ≡ s → ⊥) → digit (2 ^ s) j ≡ 0
bit_other zero zero h = absurd (h refl)
bit_other zero (suc s) h = omega (arith, pow-suc 2 s)
bit_other (suc j) zero h = rw (div-eq_of_lt (pow-lt {i = 0} {j = suc j} (zero-lt-suc j)))
bit_other (suc j) (suc s) h =
    let half : 2 ^ suc s / 2 ≡ 2 ^ s = omega (arith, pow-suc 2 s) in
    digit_suc (2 ^ suc s) j ∙ ap (λ (x : ℕ). digit x j) half ∙ bit_other j s (λ e. h (ap suc e))

-- `1 << s`, as the code computes it
pub bit_fits : (s : ℕ) → s < 64 → (1 * 2 ^ s) % 2 ^ 64 ≡ 2 ^ s
bit_fits s h = shl_exact 1 s 64 (pow-lt {i = 0} {j = 1} (zero-lt-suc 0)) (omega arith) ∙ one-mul (2 ^ s)

-- ---- a flipped word

pub flip_digit : (K w j : ℕ) → w < 2 ^ K → j < K → digit (2 ^ K - 1 - w) j ≡ 1 - digit w j
flip_digit zero w j h l = absurd (omega arith)
flip_digit (suc K) w zero h l = omega (arith, pow-suc 2 K)
flip_digit (suc K) w (suc j) h l =
    let half : (2 ^ suc K - 1 - w) / 2 ≡ 2 ^ K - 1 - w / 2 = omega (arith, pow-suc 2 K) in
    digit_suc (2 ^ suc K - 1 - w) j
    ∙ ap (λ (x : ℕ). digit x j) half
    ∙ flip_digit K (w / 2) j (omega (arith, pow-suc 2 K)) (omega arith)
    ∙ ap (λ (x : ℕ). 1 - x) (sym (digit_suc w j))

-- ---- trailing zeros

pub trail_below : (k n j : ℕ) → j < count_trailing_zeros k n → digit n j ≡ 0
unfolding count_trailing_zeros
trail_below zero n j h = absurd (omega arith)
trail_below (suc k) n j h = go (λ i. trail_below k (n / 2) i) (n % 2) refl j h
  where
    go : ((i : ℕ) → i < count_trailing_zeros k (n / 2) → digit (n / 2) i ≡ 0)
        → (d : ℕ) → n % 2 ≡ d → (j : ℕ) → j < under d (count_trailing_zeros k (n / 2)) → digit n j ≡ 0
    go ih zero e zero h = omega arith
    go ih zero e (suc j) h = digit_suc n j ∙ ih j (omega arith)
    go ih (suc d) e j h = absurd (omega arith)

pub trail_at : (k n : ℕ) → count_trailing_zeros k n < k → digit n (count_trailing_zeros k n) ≡ 1
unfolding count_trailing_zeros
trail_at zero n h = absurd (omega arith)
trail_at (suc k) n h = go (λ i. trail_at k (n / 2) i) (n % 2) refl h
  where
    go : (count_trailing_zeros k (n / 2) < k → digit (n / 2) (count_trailing_zeros k (n / 2)) ≡ 1)
        → (d : ℕ) → n % 2 ≡ d → under d (count_trailing_zeros k (n / 2)) < suc k → digit n (under d (count_trailing_zeros k (n / 2))) ≡ 1
    go ih zero e h = digit_suc n (count_trailing_zeros k (n / 2)) ∙ ih (omega arith)
    go ih (suc d) e h = omega arith

pub trail_some : (k n : ℕ) → n < 2 ^ k → (n ≡ 0 → ⊥) → count_trailing_zeros k n < k
unfolding count_trailing_zeros
trail_some zero n h e = absurd (e (omega arith))
trail_some (suc k) n h z = go (λ i. trail_some k (n / 2) (omega (arith, pow-suc 2 k)) i) (n % 2) refl
  where
    go : ((n / 2 ≡ 0 → ⊥) → count_trailing_zeros k (n / 2) < k) → (d : ℕ) → n % 2 ≡ d → under d (count_trailing_zeros k (n / 2)) < suc k
    go ih zero e = suc-le-suc (ih (λ f. z (omega arith)))
    go ih (suc d) e = zero-lt-suc k

-- ---- a word w, flipped and shifted right by s: the used numbers of a word of the map from its digit s up

-- t digits from s up are 1, and then comes a 0
pub record Found (w s t : ℕ) : Type 0 where
  pub inside : s + t < 64
  pub here : digit w (s + t) ≡ 0
  pub before : (j : ℕ) → j < t → digit w (s + j) ≡ 1

module _ (w s : ℕ) (h : w < 2 ^ 64) where
  abbrev flipped : ℕ
  flipped = 2 ^ 64 - 1 - w

  pub found : s < 64 → (flipped / 2 ^ s ≡ 0 → ⊥) → Found w s (count_trailing_zeros 64 (flipped / 2 ^ s))
  found l z =
      record {
        inside = in_word;
        here = omega (arith, flip_digit 64 w (s + t) h in_word, at_t);
        before = λ j g. omega (arith, flip_digit 64 w (s + j) h (omega (arith, in_word)), below j g);
      }
    where
      t : ℕ
      t = count_trailing_zeros 64 (flipped / 2 ^ s)

      at_t : digit flipped (s + t) ≡ 1
      at_t = sym (digit_shr flipped s t) ∙ trail_at 64 (flipped / 2 ^ s) (trail_some 64 (flipped / 2 ^ s) (omega (arith, shr_le flipped s)) z)

      in_word : s + t < 64
      in_word = lt_of_not-le (λ (g : 64 ≤ s + t). omega (arith, at_t, digit_past 64 flipped (s + t) (omega arith) g))

      below : (j : ℕ) → j < t → digit flipped (s + j) ≡ 0
      below j g = sym (digit_shr flipped s j) ∙ trail_below 64 (flipped / 2 ^ s) j g

  -- nothing is left: the digits from s up are all 1
  pub full : flipped / 2 ^ s ≡ 0 → (j : ℕ) → s ≤ j → j < 64 → digit w j ≡ 1
  full z j l g =
      let e : s + (j - s) ≡ j = omega arith in
      let none : digit flipped j ≡ 0 = ap (digit flipped) (sym e) ∙ sym (digit_shr flipped s (j - s)) ∙ rw z (digit_past 0 0 (j - s) (zero-lt-suc 0) zero-le) in
      omega (arith, flip_digit 64 w j h g, digit_le w j)
