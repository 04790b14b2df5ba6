-- "Show the facts once for any size, then for the four" (document 02, W-204).
-- Assumes nothing.
use mathlib.Core.Path.{◌≡◌, refl, sym, ap, ◌∙◌}
use mathlib.Core.Bool.{true, false}
use Prim.Native.Nat.{ℕ, zero, suc, ◌+◌, ◌-◌, ◌*◌, ◌%◌, ◌^◌, ◌≤◌, ◌<◌}
use native.Mathlib.Nat.{pow-suc}
use native.Mathlib.Omega.{arith}
use lib.Dec.{ltb}
use lib.Pow.{pow-add}
use borrow.Author.Tests.{le-leb, lt-leb}
use Rattle.sizes.specs.Sizes.{modulus, fits, half, low, minus, amount, below}
use Rattle.sizes.specs.Biased.{biased}
use Rattle.sizes.proofs.Signed.{two_halves, low_is, value, below_biased, same_low}

-- of w bytes: there are n numbers, and the top bit is set from h on
pub record Facts (w h n : ℕ) : Type 0 where
  -- 0 to n - 1 fit
  pub fitting : (x : ℕ) → fits w x ≡ ltb x n
  -- the signed number of x is x where that is below h, and from h on x - n
  pub plus_number : (x : ℕ) → x < h → (minus w x ≡ false) × (amount w x ≡ x)
  pub minus_number : (x : ℕ) → h ≤ x → x < n → (minus w x ≡ true) × (amount w x + x ≡ n)
  -- they go from -h to h - 1, and there is no -0
  pub highest : (x : ℕ) → minus w x ≡ false → amount w x < h
  pub lowest : (x : ℕ) → minus w x ≡ true → (1 ≤ amount w x) × (amount w x ≤ h)
  -- two numbers that fit have two signed numbers
  pub one_number : (x y : ℕ) → x < n → y < n → minus w x ≡ minus w y → amount w x ≡ amount w y → x ≡ y
  -- the signed order is that of the numbers plus h, wrapped; the unsigned one that of the numbers
  pub signed_order : (x y : ℕ) → below w true x y ≡ ltb ((x + h) % n) ((y + h) % n)
  pub unsigned_order : (x y : ℕ) → below w false x y ≡ ltb x y

pub any_size : (w : ℕ) → 1 ≤ w → Facts w (2 ^ (8 * w - 1)) (2 ^ (8 * w))
unfolding modulus fits half minus below biased
any_size w some =
    record {
      fitting = λ x. refl;
      plus_number = λ x less.
          let l = low_is w some x (omega (arith, two_halves w some)) in
          let s : minus w x ≡ false = lt-leb (half w) (low w x) (omega arith) in
          (s, omega (arith, (value w some x).without_minus s));
      minus_number = λ x from less.
          let l = low_is w some x less in
          let s : minus w x ≡ true = le-leb (half w) (low w x) (omega arith) in
          (s, omega (arith, (value w some x).with_minus s, two_halves w some));
      highest = λ x s. omega (arith, (value w some x).without_minus s, (value w some x).below_top);
      lowest = λ x s. omega (arith, (value w some x).with_minus s, (value w some x).below_top);
      one_number = λ x y less_x less_y s a. sym (low_is w some x less_x) ∙ same_low w some x y s a ∙ low_is w some y less_y;
      signed_order = λ x y. below_biased w some x y;
      unsigned_order = λ x y. refl;
    }

pub one_byte : Facts 1 128 256
one_byte = any_size 1 (omega arith)

pub two_bytes : Facts 2 32768 65536
two_bytes = any_size 2 (omega arith)

pub four_bytes : Facts 4 2147483648 4294967296
four_bytes = any_size 4 (omega arith)

pub eight_bytes : Facts 8 9223372036854775808 18446744073709551616
eight_bytes = any_size 8 (omega arith)

-- a byte has 256 values, so that w bytes have 256 ^ w
pub modulus_bytes : (w : ℕ) → modulus w ≡ 256 ^ w
unfolding modulus
modulus_bytes zero = refl
modulus_bytes (suc w) =
    ap (λ (n : ℕ). 2 ^ n) (omega arith) ∙ pow-add 2 (8 * w) 8 ∙ ap (λ (n : ℕ). n * 256) (modulus_bytes w) ∙ sym (pow-suc 256 w)
