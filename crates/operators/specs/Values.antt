-- Values of expressions (document 02, W-202): what an operator makes of its operands' values, and what each constant is.
-- The words in quotes are W-202's, in its order. What a question answers is not said here.
use Rattle.std.specs.Prelude.{ℕ, ◌+◌, ◌-◌, ◌*◌, ◌/◌, ◌%◌, ◌^◌, Bool, true, false, cond, not, ◌&&◌, ◌||◌, ltb, List, [], ◌∷◌, ◌==◌, bit_and, bit_or, nat_le, nat_lt}
use Rattle.std.specs.Bool.{beq}
use Rattle.rows.specs.Codes.{OR, AND, BITWISE_OR, BITWISE_AND, EQUAL, NOT_EQUAL, GREATER_THAN, GREATER_EQUAL, LESS_THAN, LESS_EQUAL}
use Rattle.rows.specs.Codes.{SHIFT_LEFT, SHIFT_RIGHT, ADD, SUBTRACT, MULTIPLY, DIVIDE, MODULO}
use Rattle.rows.specs.Codes.{TRUE, FALSE, ZERO, ONE, ONES, UNDEFINED}
-- "Values are TRUE or FALSE, an unsigned 64-bit number, or undefined": Boolean true or Boolean false, a Number, or Undefined.
-- Here a number has any size; InRange (in Range) says that it has 64 bits.
use Rattle.operators.specs.declared.Scalar.{Scalar}
use Rattle.operators.specs.declared.Scalar.TheVariants.{Boolean, Number, Undefined}

-- ---- operators and the sorts of their operands

-- a binary operator: what it makes of two booleans, and what of two numbers
pub record Operation : Type 0 where
  pub booleans : Bool → Bool → Scalar
  pub numbers : ℕ → ℕ → Scalar

-- "An operator with an undefined operand is undefined;" of two sorts one operand is a non-boolean and the other a non-number, so that
-- by the words quoted below every operator, be it logic, arithmetic, bits, order or equality, is undefined there too
unfoldable pub applied : Operation → Scalar → Scalar → Scalar
applied o (Boolean a) (Boolean b) = o.booleans a b
applied o (Boolean a) (Number b) = Undefined
applied o (Boolean a) Undefined = Undefined
applied o (Number a) (Boolean b) = Undefined
applied o (Number a) (Number b) = o.numbers a b
applied o (Number a) Undefined = Undefined
applied o Undefined r = Undefined

-- "so is logic on a non-boolean,"
abbrev pub logic : (Bool → Bool → Bool) → Operation
logic f = record { booleans = λ a b. Boolean (f a b); numbers = λ a b. Undefined }

-- `NOT`, logic on one operand
unfoldable pub negated : Scalar → Scalar
negated (Boolean a) = Boolean (not a)
negated (Number a) = Undefined
negated Undefined = Undefined

-- "arithmetic, bits or order on a non-number,"
abbrev pub numeric : (ℕ → ℕ → Scalar) → Operation
numeric f = record { booleans = λ a b. Undefined; numbers = f }

-- arithmetic and bits, the shifts among them, make a number
abbrev pub arithmetic : (ℕ → ℕ → ℕ) → Operation
arithmetic f = numeric (λ a b. Number (f a b))

-- order makes TRUE or FALSE of unsigned numbers
abbrev pub order : (ℕ → ℕ → Bool) → Operation
order f = numeric (λ a b. Boolean (f a b))

-- "and equality between two sorts." Between two booleans and between two numbers it makes TRUE or FALSE; f is told whether they are equal
abbrev pub equality : (Bool → Bool) → Operation
equality f = record { booleans = λ a b. Boolean (f (beq a b)); numbers = λ a b. Boolean (f (a == b)) }

-- ---- numbers of 64 bits

-- "Sums, differences and products keep their low 64 bits,"
abbrev pub low : ℕ → ℕ
low n = n % 2 ^ 64

unfoldable pub sum : ℕ → ℕ → ℕ
sum a b = low (a + b)

-- with 2^64 added, which the low 64 bits do not show: natural numbers do not go below 0
unfoldable pub difference : ℕ → ℕ → ℕ
difference a b = low (a + 2 ^ 64 - b)

unfoldable pub product : ℕ → ℕ → ℕ
product a b = low (a * b)

-- "as does a left shift;" and from 64 on it gives 0, as the last of these sentences says
unfoldable pub shifted_left : ℕ → ℕ → ℕ
shifted_left a n = cond (nat_lt n 64) (low (a * 2 ^ n)) 0

-- "a zero divisor gives undefined;" here f is the quotient or the remainder
unfoldable pub divided : (ℕ → ℕ → ℕ) → ℕ → ℕ → Scalar
divided f a b = cond (b == 0) Undefined (Number (f a b))

-- "a shift by 64 or more gives 0."
unfoldable pub shifted_right : ℕ → ℕ → ℕ
shifted_right a n = cond (nat_lt n 64) (a / 2 ^ n) 0

-- ---- the operators by their codes

-- document 01's binary operators, in the order of its table of codes
unfoldable pub operations : List (ℕ × Operation)
operations =
    (OR, logic ◌||◌)
    ∷ (AND, logic ◌&&◌)
    ∷ (BITWISE_OR, arithmetic bit_or)
    ∷ (BITWISE_AND, arithmetic bit_and)
    ∷ (EQUAL, equality (λ same. same))
    ∷ (NOT_EQUAL, equality not)
    ∷ (GREATER_THAN, order (λ a b. ltb b a))
    ∷ (GREATER_EQUAL, order (λ a b. nat_le b a))
    ∷ (LESS_THAN, order ltb)
    ∷ (LESS_EQUAL, order nat_le)
    ∷ (SHIFT_LEFT, arithmetic shifted_left)
    ∷ (SHIFT_RIGHT, arithmetic shifted_right)
    ∷ (ADD, arithmetic sum)
    ∷ (SUBTRACT, arithmetic difference)
    ∷ (MULTIPLY, arithmetic product)
    ∷ (DIVIDE, numeric (divided ◌/◌))
    ∷ (MODULO, numeric (divided ◌%◌))
    ∷ []

-- what stands beside a code in a table; other where the code does not stand there
unfoldable pub found : {A : Type 0} → A → List (ℕ × A) → ℕ → A
found other [] c = other
found other (e ∷ es) c = cond (c == e.0) e.1 (found other es c)

-- the operator of a code that is none of these: undefined on all operands
abbrev pub no_operation : Operation
no_operation = record { booleans = λ a b. Undefined; numbers = λ a b. Undefined }

-- the operator of a code
abbrev pub operation_of : ℕ → Operation
operation_of = found no_operation operations

-- what the operator of a code makes of two values
abbrev pub combined : ℕ → Scalar → Scalar → Scalar
combined c = applied (operation_of c)

-- ---- the constants by their codes

-- "ZERO, ONE and ONES are 0, 1 and all ones."; TRUE, FALSE and UNDEFINED are the values of these names
unfoldable pub constants : List (ℕ × Scalar)
constants =
    (TRUE, Boolean true)
    ∷ (FALSE, Boolean false)
    ∷ (ZERO, Number 0)
    ∷ (ONE, Number 1)
    ∷ (ONES, Number (2 ^ 64 - 1))
    ∷ (UNDEFINED, Undefined)
    ∷ []

-- the constant of a code; undefined where the code is none of these
abbrev pub constant_of : ℕ → Scalar
constant_of = found Undefined constants
