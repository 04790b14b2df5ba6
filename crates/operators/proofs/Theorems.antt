-- W-202's sentences about operators and constants (document 02), over the definitions of Values.
use Rattle.std.proofs.Common.{◌≡◌, ℕ, ◌+◌, ◌-◌, ◌*◌, ◌%◌, ◌^◌, ◌<◌, ◌≤◌, Bool, true, false, cond, ◌&&◌, ltb, List, [], ◌∷◌, ◌++◌, sym, refl, ap, ◌∙◌, true≢false, mul_assoc, arith, pow-add, ltb-false, le-ltb}
use native.Mathlib.Nat.{mul-mod_left}
use Rattle.rows.specs.Codes.{member}
use Rattle.rows.specs.Codes.{OR, AND, BITWISE_OR, BITWISE_AND, EQUAL, NOT_EQUAL, GREATER_THAN, GREATER_EQUAL, LESS_THAN, LESS_EQUAL}
use Rattle.rows.specs.Codes.{SHIFT_LEFT, SHIFT_RIGHT, ADD, SUBTRACT, MULTIPLY, DIVIDE, MODULO}
use Rattle.rows.specs.Codes.{TRUE, FALSE, ZERO, ONE, ONES, UNDEFINED}
use Rattle.operators.specs.Values.{Operation, applied, combined, negated, no_operation, operations, operation_of, found, constants, constant_of}
use Rattle.operators.specs.Values.{sum, difference, product, shifted_left, shifted_right, divided}
use Rattle.operators.specs.declared.Scalar.{Scalar}
use Rattle.operators.specs.declared.Scalar.TheVariants.{Boolean, Number, Undefined}
use Rattle.operators.proofs.Tables.{undefined_at_lem, found_undefined}
use Rattle.operators.proofs.Arithmetic.{difference_is}

-- ---- the operators, by what W-202 calls them

abbrev pub logic_codes : List ℕ
logic_codes = OR ∷ AND ∷ []

abbrev pub equality_codes : List ℕ
equality_codes = EQUAL ∷ NOT_EQUAL ∷ []

-- bits (the shifts are bits too), order and arithmetic
abbrev pub numeric_codes : List ℕ
numeric_codes =
    BITWISE_OR ∷ BITWISE_AND ∷ SHIFT_LEFT ∷ SHIFT_RIGHT ∷ GREATER_THAN ∷ GREATER_EQUAL ∷ LESS_THAN ∷ LESS_EQUAL
    ∷ ADD ∷ SUBTRACT ∷ MULTIPLY ∷ DIVIDE ∷ MODULO ∷ []

abbrev pub is_boolean : Scalar → Bool
is_boolean (Boolean a) = true
is_boolean (Number a) = false
is_boolean Undefined = false

abbrev pub is_number : Scalar → Bool
is_number (Boolean a) = false
is_number (Number a) = true
is_number Undefined = false

-- an operator is undefined where it is on booleans, if there are two, and on numbers, if there are two
applied_undefined : (o : Operation) (l r : Scalar)
    → ((a b : Bool) → l ≡ Boolean a → r ≡ Boolean b → o.booleans a b ≡ Undefined)
    → ((a b : ℕ) → l ≡ Number a → r ≡ Number b → o.numbers a b ≡ Undefined)
    → applied o l r ≡ Undefined
unfolding applied
applied_undefined o (Boolean a) (Boolean b) h k = h a b refl refl
applied_undefined o (Boolean a) (Number b) h k = refl
applied_undefined o (Boolean a) Undefined h k = refl
applied_undefined o (Number a) (Boolean b) h k = refl
applied_undefined o (Number a) (Number b) h k = k a b refl refl
applied_undefined o (Number a) Undefined h k = refl
applied_undefined o Undefined r h k = refl

-- ---- "An operator with an undefined operand is undefined"

pub undefined_left : (c : ℕ) (r : Scalar) → combined c Undefined r ≡ Undefined
unfolding applied
undefined_left c r = refl

pub undefined_right : (c : ℕ) (l : Scalar) → combined c l Undefined ≡ Undefined
unfolding applied
undefined_right c (Boolean a) = refl
undefined_right c (Number a) = refl
undefined_right c Undefined = refl

pub undefined_negated : negated Undefined ≡ Undefined
unfolding negated
undefined_negated = refl

-- ---- "so is logic on a non-boolean"

pub logic_on_a_non_boolean : (c : ℕ) (l r : Scalar) → member c logic_codes ≡ true → (is_boolean l && is_boolean r) ≡ false
    → combined c l r ≡ Undefined
unfolding found operations
logic_on_a_non_boolean c l r m h =
    applied_undefined (operation_of c) l r
    (λ a b e f. absurd (true≢false ((λ i. is_boolean (sym e i) && is_boolean (sym f i)) ∙ h)))
    (λ a b e f. undefined_at_lem (λ k. (operation_of k).numbers a b) logic_codes refl c m)

pub not_on_a_non_boolean : (w : Scalar) → is_boolean w ≡ false → negated w ≡ Undefined
unfolding negated
not_on_a_non_boolean (Boolean a) h = absurd (true≢false h)
not_on_a_non_boolean (Number a) h = refl
not_on_a_non_boolean Undefined h = refl

-- ---- "arithmetic, bits or order on a non-number"

pub numeric_on_a_non_number : (c : ℕ) (l r : Scalar) → member c numeric_codes ≡ true → (is_number l && is_number r) ≡ false
    → combined c l r ≡ Undefined
unfolding found operations
numeric_on_a_non_number c l r m h =
    applied_undefined (operation_of c) l r
    (λ a b e f. undefined_at_lem (λ k. (operation_of k).booleans a b) numeric_codes refl c m)
    (λ a b e f. absurd (true≢false ((λ i. is_number (sym e i) && is_number (sym f i)) ∙ h)))

-- ---- "and equality between two sorts": as every operator

pub two_sorts : (c : ℕ) (a : Bool) (b : ℕ) → (combined c (Boolean a) (Number b) ≡ Undefined) × (combined c (Number b) (Boolean a) ≡ Undefined)
unfolding applied
two_sorts c a b = (refl, refl)

-- ---- "Sums, differences and products keep their low 64 bits, as does a left shift"

pub low_sum : (a b : ℕ) → combined ADD (Number a) (Number b) ≡ Number ((a + b) % 2 ^ 64)
unfolding applied found operations sum
low_sum a b = refl

-- the difference: the one number below 2^64 that with b makes a, but for what passes 64 bits
pub low_difference : (a b : ℕ) → a < 2 ^ 64 → b < 2 ^ 64
    → (d : ℕ) × (combined SUBTRACT (Number a) (Number b) ≡ Number d) × (d < 2 ^ 64) × ((d + b) % 2 ^ 64 ≡ a)
unfolding applied found operations difference
low_difference a b h k = (difference a b, refl, omega arith, omega arith)

pub one_difference : (a b d : ℕ) → b < 2 ^ 64 → d < 2 ^ 64 → (d + b) % 2 ^ 64 ≡ a → combined SUBTRACT (Number a) (Number b) ≡ Number d
unfolding applied found operations
one_difference a b d h k e = ap Number (sym (difference_is a b d h k e))

pub low_product : (a b : ℕ) → combined MULTIPLY (Number a) (Number b) ≡ Number (a * b % 2 ^ 64)
unfolding applied found operations product
low_product a b = refl

-- from 64 on no bit is left
all_out : (a n : ℕ) → 64 ≤ n → a * 2 ^ n % 2 ^ 64 ≡ 0
all_out a n h =
    let two : n ≡ (n - 64) + 64 = omega arith in
    ap (λ (m : ℕ). a * 2 ^ m % 2 ^ 64) two
    ∙ ap (λ (m : ℕ). a * m % 2 ^ 64) (pow-add 2 (n - 64) 64)
    ∙ ap (λ (m : ℕ). m % 2 ^ 64) (sym (mul_assoc a (2 ^ (n - 64)) (2 ^ 64)))
    ∙ mul-mod_left (a * 2 ^ (n - 64)) (2 ^ 64)

pub low_left_shift : (a n : ℕ) → combined SHIFT_LEFT (Number a) (Number n) ≡ Number (a * 2 ^ n % 2 ^ 64)
unfolding applied found operations shifted_left
low_left_shift a n = go (ltb n 64) refl
  where
    go : (t : Bool) → ltb n 64 ≡ t → Number (cond t (a * 2 ^ n % 2 ^ 64) 0) ≡ Number (a * 2 ^ n % 2 ^ 64)
    go true e = refl
    go false e = ap Number (sym (all_out a n (ltb-false n 64 e)))

-- ---- "a zero divisor gives undefined", whatever it divides

pub zero_divisor : (l : Scalar) → (combined DIVIDE l (Number 0) ≡ Undefined) × (combined MODULO l (Number 0) ≡ Undefined)
unfolding applied found operations divided
zero_divisor (Boolean a) = (refl, refl)
zero_divisor (Number a) = (refl, refl)
zero_divisor Undefined = (refl, refl)

-- ---- "a shift by 64 or more gives 0", to either side

pub long_shift : (a n : ℕ) → 64 ≤ n
    → (combined SHIFT_LEFT (Number a) (Number n) ≡ Number 0) × (combined SHIFT_RIGHT (Number a) (Number n) ≡ Number 0)
unfolding applied found operations shifted_left shifted_right
long_shift a n h = (rw (le-ltb n 64 h), rw (le-ltb n 64 h))

-- ---- every other code

pub no_operator_lem : (c : ℕ) (l r : Scalar) → member c (logic_codes ++ (equality_codes ++ numeric_codes)) ≡ false → combined c l r ≡ Undefined
unfolding operations member
no_operator_lem c l r h =
    found_undefined (logic_codes ++ (equality_codes ++ numeric_codes)) (λ o. applied o l r) no_operation operations c
    (applied_undefined no_operation l r (λ a b e f. refl) (λ a b e f. refl)) refl h

-- ---- "ZERO, ONE and ONES are 0, 1 and all ones", beside the values' own names

pub constants_are : (constant_of ZERO ≡ Number 0) × (constant_of ONE ≡ Number 1) × (constant_of ONES ≡ Number (2 ^ 64 - 1))
    × (constant_of TRUE ≡ Boolean true) × (constant_of FALSE ≡ Boolean false) × (constant_of UNDEFINED ≡ Undefined)
unfolding found constants
constants_are = (refl, refl, refl, refl, refl, refl)
