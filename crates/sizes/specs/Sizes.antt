-- Numbers of w bytes, unsigned and signed (document 02, W-204 and W-207). The words in quotes are W-204's where no other request is named.
-- Here w is any number of bytes from 1 on: "Show the facts once for any size, then for the four."
use Rattle.std.specs.Prelude.{ℕ, ◌-◌, ◌*◌, ◌%◌, ◌^◌, Bool, true, false, cond, ◌||◌, eqb, leb, ltb}

-- "Numerics may name one of `NUMERIC_SIZE_1`, `_2`, `_4`, `_8` ..; absent means eight bytes": how many bytes a size stands for, which are
-- eight for every number that is none of the four
unfoldable pub width : ℕ → ℕ
width size = cond (eqb size 1 || eqb size 2 || eqb size 4) size 8

-- ---- unsigned

-- how many numbers w bytes have
unfoldable pub modulus : ℕ → ℕ
modulus w = 2 ^ (8 * w)

-- "Minimum, maximum, step and default must fit the size."
unfoldable pub fits : ℕ → ℕ → Bool
fits w x = ltb x (modulus w)

-- ---- signed: "For `DISPLAY_INT_DEC` the first, second and fourth are two's complement of that size,"

-- half of the numbers: those from here on have their top bit set
unfoldable pub half : ℕ → ℕ
half w = 2 ^ (8 * w - 1)

-- the low w bytes of x, which are x itself where it fits
unfoldable pub low : ℕ → ℕ → ℕ
low w x = x % modulus w

-- the signed number is below zero; it then has "a minus" (W-207)
unfoldable pub minus : ℕ → ℕ → Bool
minus w x = leb (half w) (low w x)

-- its distance from zero, "its amount" (W-207)
unfoldable pub amount : ℕ → ℕ → ℕ
amount w x = cond (minus w x) (modulus w - low w x) (low w x)

-- ---- order: "and the order is the signed one: at size 1, minimum 251 and maximum 5 is good, minimum 127 and maximum 128 is not."

-- the first of two signed numbers is below the second; of each, whether it has a minus, and its amount
unfoldable pub signed_below : Bool → ℕ → Bool → ℕ → Bool
signed_below true a true b = ltb b a
signed_below true a false b = true
signed_below false a true b = false
signed_below false a false b = ltb a b

-- x is below y: as signed numbers, or else as they are
unfoldable pub below : ℕ → Bool → ℕ → ℕ → Bool
below w signed x y = cond signed (signed_below (minus w x) (amount w x) (minus w y) (amount w y)) (ltb x y)
