-- Numbers of W-204 and W-207 (document 02), and those at the ends of each size, computed.
-- Assumes nothing.
use mathlib.Core.Path.{◌≡◌, refl}
use mathlib.Core.Bool.{Bool, true, false, not, ◌&&◌}
use mathlib.Core.List.{List, [], ◌∷◌, map}
use Prim.Native.Nat.{ℕ}
use Rattle.sizes.specs.Sizes.{width, modulus, fits, half, low, minus, amount, signed_below, below}

-- ---- sizes

-- the four as they are, and eight bytes for any other number
pub widths : map width (1 ∷ 2 ∷ 4 ∷ 8 ∷ 0 ∷ 3 ∷ 16 ∷ []) ≡ 1 ∷ 2 ∷ 4 ∷ 8 ∷ 8 ∷ 8 ∷ 8 ∷ []
unfolding width
widths = refl

-- the last number that fits, and the next
pub fit_one : map (fits 1) (255 ∷ 256 ∷ []) ≡ true ∷ false ∷ []
unfolding modulus fits
fit_one = refl

pub fit_two : map (fits 2) (65535 ∷ 65536 ∷ []) ≡ true ∷ false ∷ []
unfolding modulus fits
fit_two = refl

pub fit_four : map (fits 4) (4294967295 ∷ 4294967296 ∷ []) ≡ true ∷ false ∷ []
unfolding modulus fits
fit_four = refl

pub fit_eight : map (fits 8) (18446744073709551615 ∷ 18446744073709551616 ∷ []) ≡ true ∷ false ∷ []
unfolding modulus fits
fit_eight = refl

-- ---- signed numbers

-- the signed numbers of numbers of w bytes: whether each has a minus, and its amount
abbrev signed : ℕ → List ℕ → List (Bool × ℕ)
signed w xs = map (λ x. (minus w x, amount w x)) xs

-- 0, the highest and the lowest number, -5 and -1
pub signed_one : signed 1 (0 ∷ 127 ∷ 128 ∷ 251 ∷ 255 ∷ []) ≡ (false, 0) ∷ (false, 127) ∷ (true, 128) ∷ (true, 5) ∷ (true, 1) ∷ []
unfolding modulus half low minus amount
signed_one = refl

pub signed_two :
    signed 2 (0 ∷ 32767 ∷ 32768 ∷ 65531 ∷ 65535 ∷ []) ≡ (false, 0) ∷ (false, 32767) ∷ (true, 32768) ∷ (true, 5) ∷ (true, 1) ∷ []
unfolding modulus half low minus amount
signed_two = refl

pub signed_four :
    signed 4 (0 ∷ 2147483647 ∷ 2147483648 ∷ 4294967291 ∷ 4294967295 ∷ [])
    ≡ (false, 0) ∷ (false, 2147483647) ∷ (true, 2147483648) ∷ (true, 5) ∷ (true, 1) ∷ []
unfolding modulus half low minus amount
signed_four = refl

pub signed_eight :
    signed 8 (0 ∷ 9223372036854775807 ∷ 9223372036854775808 ∷ 18446744073709551611 ∷ 18446744073709551615 ∷ [])
    ≡ (false, 0) ∷ (false, 9223372036854775807) ∷ (true, 9223372036854775808) ∷ (true, 5) ∷ (true, 1) ∷ []
unfolding modulus half low minus amount
signed_eight = refl

-- 251, which is -5 at one byte, is itself at eight
pub wider : signed 8 (251 ∷ []) ≡ (false, 251) ∷ []
unfolding modulus half low minus amount
wider = refl

-- W-207, a numeric of four bytes shown as signed: 4294967289 is printed as -7, and 3 as 3
pub printed : signed 4 (4294967289 ∷ 3 ∷ []) ≡ (true, 7) ∷ (false, 3) ∷ []
unfolding modulus half low minus amount
printed = refl

-- ---- order

-- a minimum and a maximum are good where the maximum is not below the minimum
abbrev good : ℕ → Bool → ℕ → ℕ → Bool
good w s minimum maximum = not (below w s maximum minimum)

-- "at size 1, minimum 251 and maximum 5 is good, minimum 127 and maximum 128 is not": they are -5 and 5, and 127 and -128
pub one_byte_signed : (good 1 true 251 5 ≡ true) × (good 1 true 127 128 ≡ false)
unfolding modulus half low minus amount signed_below below
one_byte_signed = (refl, refl)

-- unsigned it is the other way round
pub one_byte_unsigned : (good 1 false 251 5 ≡ false) × (good 1 false 127 128 ≡ true)
unfolding below
one_byte_unsigned = (refl, refl)

-- at eight bytes 251 is above 5, and -5 is 2^64 - 5
pub eight_bytes_signed : (good 8 true 251 5 ≡ false) × (good 8 true 18446744073709551611 5 ≡ true)
unfolding modulus half low minus amount signed_below below
eight_bytes_signed = (refl, refl)

-- a minimum may be the maximum
pub equal_limits : (good 1 true 128 128 ≡ true) × (good 1 true 5 5 ≡ true) × (good 1 false 255 255 ≡ true)
unfolding modulus half low minus amount signed_below below
equal_limits = (refl, refl, refl)

-- each number is below the next
abbrev rises : (ℕ → ℕ → Bool) → ℕ → List ℕ → Bool
rises less x [] = true
rises less x (y ∷ ys) = less x y && rises less y ys

-- -128, -6, -5, -1, 0, 5, 127
pub one_byte_rises : rises (below 1 true) 128 (250 ∷ 251 ∷ 255 ∷ 0 ∷ 5 ∷ 127 ∷ []) ≡ true
unfolding modulus half low minus amount signed_below below
one_byte_rises = refl
