-- Signed numbers of w bytes, once for any w from 1 on.
-- Assumes nothing.
use mathlib.Core.Path.{◌≡◌, refl, sym, ap, ◌∙◌}
use mathlib.Core.Bool.{Bool, true, false}
use Prim.Native.Nat.{ℕ, suc, ◌+◌, ◌-◌, ◌*◌, ◌/◌, ◌%◌, ◌^◌, ◌≤◌, ◌<◌}
use native.Mathlib.Nat.{mod-add-mod, mod-eq_of_lt, mod-eq-sub-mod, mod-lt, two-pow-succ}
use native.Mathlib.Omega.{arith}
use lib.Arith.{mod-mul}
use lib.Dec.{eqb, ltb}
use lib.Pow.{pow_pos}
use borrow.Author.Tests.{eqb-true, eqb-false, le-leb, lt-leb, lt-ltb, le-ltb}
use Rattle.sizes.specs.Sizes.{width, modulus, fits, half, low, minus, amount, signed_below, below}
use Rattle.sizes.specs.Biased.{biased}
use Rattle.sizes.proofs.Tests.{either, same_order}

-- ---- one signed number, where h numbers have a top bit that is clear and h one that is set

-- s is the top bit and r the bits below it; they make the number l, the amount a and the biased number u
pub record Value (h : ℕ) (s : Bool) (r l a u : ℕ) : Type 0 where
  pub below_top : r < h
  pub with_minus : s ≡ true → (l ≡ h + r) × (a + r ≡ h) × (u ≡ r)
  pub without_minus : s ≡ false → (l ≡ r) × (a ≡ r) × (u ≡ h + r)

-- biased numbers stand in the order of the signed ones
ordered : {h : ℕ} {s t : Bool} {r l a u q m b v : ℕ} → Value h s r l a u → Value h t q m b v → signed_below s a t b ≡ ltb u v
unfolding signed_below
ordered {s = true} {t = true} {a = a} {u = u} {b = b} {v = v} x y =
    same_order b a u v (λ o. omega (arith, x.with_minus refl, y.with_minus refl)) (λ o. omega (arith, x.with_minus refl, y.with_minus refl))
ordered {s = true} {t = false} {u = u} {v = v} x y = sym (lt-ltb u v (omega (arith, x.with_minus refl, y.without_minus refl)))
ordered {s = false} {t = true} {u = u} {v = v} x y = sym (le-ltb u v (omega (arith, x.without_minus refl, y.with_minus refl)))
ordered {s = false} {t = false} {a = a} {u = u} {b = b} {v = v} x y =
    same_order a b u v (λ o. omega (arith, x.without_minus refl, y.without_minus refl)) (λ o. omega (arith, x.without_minus refl, y.without_minus refl))

-- sign and amount determine the number
determined : {h : ℕ} {s : Bool} {r l a u q m v : ℕ} → Value h s r l a u → Value h s q m a v → l ≡ m
determined {s = true} x y = omega (arith, x.with_minus refl, y.with_minus refl)
determined {s = false} x y = omega (arith, x.without_minus refl, y.without_minus refl)

-- ---- w bytes

pub half_some : (w : ℕ) → 0 < half w
unfolding half
half_some w = pow_pos (8 * w - 1)

pub modulus_some : (w : ℕ) → 0 < modulus w
unfolding modulus
modulus_some w = pow_pos (8 * w)

module _ (w : ℕ) (some : 1 ≤ w) where
  pub two_halves : modulus w ≡ half w + half w
  unfolding modulus half
  two_halves =
      let bits : 8 * w ≡ suc (8 * w - 1) = omega arith in
      ap (λ (n : ℕ). 2 ^ n) bits ∙ two-pow-succ (8 * w - 1)

  -- a number fits where its half is below half of the numbers
  pub fits_half : (x : ℕ) → ltb (x / 2) (half w) ≡ fits w x
  unfolding fits
  fits_half x = same_order (x / 2) (half w) x (modulus w) (λ o. omega (arith, two_halves)) (λ o. omega (arith, two_halves))

  -- and is then its own low bytes
  pub low_is : (x : ℕ) → x < modulus w → low w x ≡ x
  unfolding low
  low_is x h = mod-eq_of_lt h

  module _ (x : ℕ) where
    -- the low bytes are the top bit and the bits below it
    low_parts : low w x ≡ (x / half w % 2) * half w + x % half w
    unfolding low
    low_parts = ap (λ (n : ℕ). x % n) (omega (arith, two_halves)) ∙ mod-mul x {m = 2} {c = half w} (omega arith) (half_some w)

    rest_less : x % half w < half w
    rest_less = mod-lt x (half_some w)

    low_set : x / half w % 2 ≡ 1 → low w x ≡ half w + x % half w
    low_set e = omega (arith, rw e at low_parts)

    low_clear : (x / half w % 2 ≡ 1 → ⊥) → low w x ≡ x % half w
    low_clear o = let none : x / half w % 2 ≡ 0 = omega arith in omega (arith, rw none at low_parts)

    pub top_bit : eqb (x / half w % 2) 1 ≡ minus w x
    unfolding minus
    top_bit =
        either (eqb (x / half w % 2) 1)
        (λ t. t ∙ sym (le-leb (half w) (low w x) (omega (arith, low_set (eqb-true _ 1 t)))))
        (λ f. f ∙ sym (lt-leb (half w) (low w x) (omega (arith, low_clear (eqb-false _ 1 f), rest_less))))

    -- of the biased number too only the low bytes count
    biased_low : biased w x ≡ (low w x + half w) % modulus w
    unfolding biased low
    biased_low = sym (mod-add-mod x (modulus w) (half w))

    pub value : Value (half w) (minus w x) (x % half w) (low w x) (amount w x) (biased w x)
    unfolding amount
    value =
        record {
          below_top = rest_less;
          with_minus = λ t.
              let l : low w x ≡ half w + x % half w = low_set (eqb-true _ 1 (top_bit ∙ t)) in
              let a : amount w x ≡ modulus w - low w x = rw t in
              let wraps : modulus w ≤ low w x + half w = omega (arith, two_halves) in
              let less : low w x + half w - modulus w < modulus w = omega (arith, two_halves, rest_less) in
              let u : biased w x ≡ low w x + half w - modulus w = biased_low ∙ mod-eq-sub-mod wraps ∙ mod-eq_of_lt less in
              omega (arith, two_halves, rest_less);
          without_minus = λ f.
              let l : low w x ≡ x % half w = low_clear (eqb-false _ 1 (top_bit ∙ f)) in
              let a : amount w x ≡ low w x = rw f in
              let less : low w x + half w < modulus w = omega (arith, two_halves, rest_less) in
              let u : biased w x ≡ low w x + half w = biased_low ∙ mod-eq_of_lt less in
              omega arith;
        }

  module _ (x y : ℕ) where
    pub below_biased : below w true x y ≡ ltb (biased w x) (biased w y)
    unfolding below
    below_biased = ordered (value x) (value y)

    pub same_low : minus w x ≡ minus w y → amount w x ≡ amount w y → low w x ≡ low w y
    same_low s a = determined (value x) (rw (← s, ← a) at (value y))

-- ---- every size stands for some bytes

pub width_some : (size : ℕ) → 1 ≤ width size
unfolding width
width_some size =
    either (eqb size 1) (λ t. rw t (omega (arith, eqb-true size 1 t))) (λ o.
    either (eqb size 2) (λ t. rw (o, t) (omega (arith, eqb-true size 2 t))) (λ n.
    either (eqb size 4) (λ t. rw (o, n, t) (omega (arith, eqb-true size 4 t))) (λ f. rw (o, n, f) (omega arith))))
