-- Operators make numbers of 64 bits of such, and constants are such.
use Rattle.std.proofs.Common.{ℕ, ◌+◌, ◌-◌, ◌*◌, ◌^◌, ◌<◌, ◌≤◌, Bool, true, false, cond, not, eqb, ltb, List, [], ◌∷◌, lt_of_le_of_lt, mod-lt, div-le_self, arith, pow_pos}
use native.Mathlib.Nat.{mod-le}
use lib.Pow.{ones_lt, shr_le}
use lib.Bits.{or_lt, and_lt}
use Rattle.operators.specs.Values.{Operation, logic, numeric, order, equality, no_operation, operations, operation_of, found}
use Rattle.operators.specs.Values.{applied, combined, negated, constants, constant_of}
use Rattle.operators.specs.Values.{low, sum, difference, product, shifted_left, shifted_right, divided}
use Rattle.operators.specs.Range.{InRange}
use Rattle.operators.specs.declared.Scalar.{Scalar}
use Rattle.operators.specs.declared.Scalar.TheVariants.{Boolean, Number, Undefined}

-- ---- what holds of each entry of a table, and of `other`, holds of what is found

infixr 5 ◌&◌
data Each {A : Type 0} (P : A → Type 0) : List (ℕ × A) → Type 0 where
  end : Each P []
  ◌&◌ : {e : ℕ × A} {es : List (ℕ × A)} → P e.1 → Each P es → Each P (e ∷ es)

cond_holds : {A : Type 0} (P : A → Type 0) (t : Bool) {x y : A} → P x → P y → P (cond t x y)
cond_holds P true p q = p
cond_holds P false p q = q

found_holds : {A : Type 0} (P : A → Type 0) (other : A) (es : List (ℕ × A)) (c : ℕ) → P other → Each P es → P (found other es c)
unfolding found
found_holds P other [] c h end = h
found_holds P other (e ∷ es) c h (p & t) = cond_holds P (eqb c e.0) p (found_holds P other es c h t)

-- ---- operators

-- what an operator makes is in range
record Keeps (o : Operation) : Type 0 where
  of_booleans_lem : (a b : Bool) → InRange (o.booleans a b)
  of_numbers_lem : (a b : ℕ) → a < 2 ^ 64 → b < 2 ^ 64 → InRange (o.numbers a b)

logic_keeps : {f : Bool → Bool → Bool} → Keeps (logic f)
logic_keeps = record { of_booleans_lem = λ a b. tt; of_numbers_lem = λ a b h k. tt }

equality_keeps : (f : Bool → Bool) → Keeps (equality f)
equality_keeps f = record { of_booleans_lem = λ a b. tt; of_numbers_lem = λ a b h k. tt }

numeric_keeps : {f : ℕ → ℕ → Scalar} → ((a b : ℕ) → a < 2 ^ 64 → b < 2 ^ 64 → InRange (f a b)) → Keeps (numeric f)
numeric_keeps g = record { of_booleans_lem = λ a b. tt; of_numbers_lem = g }

order_keeps : {f : ℕ → ℕ → Bool} → Keeps (order f)
order_keeps = numeric_keeps (λ a b h k. tt)

division_keeps : {f : ℕ → ℕ → ℕ} → ((a b : ℕ) → f a b ≤ a) → Keeps (numeric (divided f))
unfolding divided
division_keeps g = numeric_keeps (λ a b h k. cond_holds InRange (eqb b 0) tt (lt_of_le_of_lt (g a b) h))

low_fits : (n : ℕ) → low n < 2 ^ 64
low_fits n = mod-lt n (pow_pos 64)

left_fits : (a n : ℕ) → shifted_left a n < 2 ^ 64
unfolding shifted_left
left_fits a n = cond_holds (λ (r : ℕ). r < 2 ^ 64) (ltb n 64) (low_fits (a * 2 ^ n)) (pow_pos 64)

right_fits : (a n : ℕ) → a < 2 ^ 64 → shifted_right a n < 2 ^ 64
unfolding shifted_right
right_fits a n h = cond_holds (λ (r : ℕ). r < 2 ^ 64) (ltb n 64) (lt_of_le_of_lt (shr_le a n) h) (pow_pos 64)

operations_keep : Each Keeps operations
unfolding operations sum difference product
operations_keep =
    logic_keeps
    & logic_keeps
    & numeric_keeps (or_lt 64)
    & numeric_keeps (and_lt 64)
    & equality_keeps (λ same. same)
    & equality_keeps not
    & order_keeps
    & order_keeps
    & order_keeps
    & order_keeps
    & numeric_keeps (λ a n h k. left_fits a n)
    & numeric_keeps (λ a n h k. right_fits a n h)
    & numeric_keeps (λ a b h k. low_fits (a + b))
    & numeric_keeps (λ a b h k. low_fits (a + 2 ^ 64 - b))
    & numeric_keeps (λ a b h k. low_fits (a * b))
    & division_keeps div-le_self
    & division_keeps mod-le
    & end

none_keeps : Keeps no_operation
none_keeps = record { of_booleans_lem = λ a b. tt; of_numbers_lem = λ a b h k. tt }

operation_keeps : (c : ℕ) → Keeps (operation_of c)
operation_keeps c = found_holds Keeps no_operation operations c none_keeps operations_keep

applied_in_range : (o : Operation) → Keeps o → (l r : Scalar) → InRange l → InRange r → InRange (applied o l r)
unfolding applied
applied_in_range o k (Boolean a) (Boolean b) h i = k.of_booleans_lem a b
applied_in_range o k (Boolean a) (Number b) h i = tt
applied_in_range o k (Boolean a) Undefined h i = tt
applied_in_range o k (Number a) (Boolean b) h i = tt
applied_in_range o k (Number a) (Number b) h i = k.of_numbers_lem a b h i
applied_in_range o k (Number a) Undefined h i = tt
applied_in_range o k Undefined r h i = tt

pub combined_in_range : (c : ℕ) (l r : Scalar) → InRange l → InRange r → InRange (combined c l r)
combined_in_range c = applied_in_range (operation_of c) (operation_keeps c)

pub negated_in_range : (w : Scalar) → InRange w → InRange (negated w)
unfolding negated
negated_in_range (Boolean a) h = tt
negated_in_range (Number a) h = tt
negated_in_range Undefined h = tt

-- ---- constants

constants_keep : Each InRange constants
unfolding constants
constants_keep =
    let one : 1 < 2 ^ 64 = omega arith in
    tt & tt & pow_pos 64 & one & ones_lt 64 & tt & end

pub constant_in_range : (c : ℕ) → InRange (constant_of c)
constant_in_range c = found_holds InRange Undefined constants c tt constants_keep
