-- Expressions as resolved text spells them, and what they mean; rules and what they are worth: by computation.
-- Assumes nothing.
use Prim.Native.Nat.{ℕ, zero, suc, ◌^◌}
use Prim.Native.String.{String}
use mathlib.Core.Path.{◌≡◌, refl, sym, ap, ◌∙◌}
use mathlib.Core.Bool.{true, false}
use mathlib.Core.List.{List, [], ◌∷◌, map}
use lib.ListN.{get_or, get_or-map}
use Rattle.lexemes.specs.Lexemes.{signs, reserved, lexemes}
use Rattle.circles.specs.Circles.{Step}
use Rattle.operators.specs.declared.Scalar.{Scalar}
use Rattle.operators.specs.declared.Scalar.TheVariants.{Boolean, Number, Undefined}
use Rattle.operators.specs.Values.{applied, negated, found, operations, constants, sum, difference, product, shifted_left, shifted_right, divided}
use Rattle.answers.specs.Expression.{Operator, or, and, bit_or, bit_and, equal, not_equal, less, less_equal, greater, greater_equal}
use Rattle.answers.specs.Expression.{shift_left, shift_right, add, subtract, multiply, divide, modulo}
use Rattle.answers.specs.Expression.{true', false', zero', one', ones', undefined'}
use Rattle.answers.specs.Text.{Word, words, decimal_digits}
use Rattle.formulas.specs.Shapes.{word}
use Rattle.formulas.specs.Formula.{Formula, f_number as N, f_constant as C, f_rule as R, f_not as NOT, f_binary}
use Rattle.formulas.specs.Words.{print}
use Rattle.meaning.specs.Meaning.{meaning}
use Rattle.meaning.specs.References.{references}
use Rattle.meaning.specs.Rules.{rule_at, steps_from, steps, rounds, worth, Solves}

-- an operator between its operands
infix 68 ◌⟨◌⟩◌
abbrev ◌⟨◌⟩◌ : Formula → Operator → Formula → Formula
l ⟨ o ⟩ r = f_binary o l r

-- no question answers, or no rule is worth anything
abbrev none : ℕ → Scalar
none n = Undefined

-- ---- expressions

-- an expression's text, with single spaces between its words and the fewest parentheses; the expression; and its value
record Example : Type 0 where
  text : String
  formula : Formula
  value : Scalar

examples : List Example
examples =
    -- no short cut: "An operator with an undefined operand is undefined"
    record { text = "TRUE OR UNDEFINED"; formula = C true' ⟨ or ⟩ C undefined'; value = Undefined }
    ∷ record { text = "FALSE AND UNDEFINED"; formula = C false' ⟨ and ⟩ C undefined'; value = Undefined }
    ∷ record { text = "NOT UNDEFINED"; formula = NOT (C undefined'); value = Undefined }
    ∷ record { text = "0 * UNDEFINED"; formula = N 0 ⟨ multiply ⟩ C undefined'; value = Undefined }
    ∷ record { text = "UNDEFINED == UNDEFINED"; formula = C undefined' ⟨ equal ⟩ C undefined'; value = Undefined }
    ∷ record { text = "UNDEFINED != 1"; formula = C undefined' ⟨ not_equal ⟩ N 1; value = Undefined }
    -- "so is logic on a non-boolean, arithmetic, bits or order on a non-number, and equality between two sorts"
    ∷ record { text = "TRUE | FALSE"; formula = C true' ⟨ bit_or ⟩ C false'; value = Undefined }
    ∷ record { text = "TRUE & TRUE"; formula = C true' ⟨ bit_and ⟩ C true'; value = Undefined }
    ∷ record { text = "TRUE << 1"; formula = C true' ⟨ shift_left ⟩ N 1; value = Undefined }
    ∷ record { text = "NOT 0"; formula = NOT (N 0); value = Undefined }
    ∷ record { text = "NOT ZERO"; formula = NOT (C zero'); value = Undefined }
    ∷ record { text = "1 OR TRUE"; formula = N 1 ⟨ or ⟩ C true'; value = Undefined }
    ∷ record { text = "FALSE < TRUE"; formula = C false' ⟨ less ⟩ C true'; value = Undefined }
    ∷ record { text = "TRUE == 1"; formula = C true' ⟨ equal ⟩ N 1; value = Undefined }
    ∷ record { text = "ONE == TRUE"; formula = C one' ⟨ equal ⟩ C true'; value = Undefined }
    ∷ record { text = "FALSE == 0"; formula = C false' ⟨ equal ⟩ N 0; value = Undefined }
    ∷ record { text = "TRUE == TRUE"; formula = C true' ⟨ equal ⟩ C true'; value = Boolean true }
    ∷ record { text = "TRUE != FALSE"; formula = C true' ⟨ not_equal ⟩ C false'; value = Boolean true }
    -- the levels of document 01, loosest first, each grouping to the left; NOT is tighter than all
    ∷ record { text = "6 & 3 == 2"; formula = N 6 ⟨ bit_and ⟩ (N 3 ⟨ equal ⟩ N 2); value = Undefined }
    ∷ record { text = "( 6 & 3 ) == 2"; formula = (N 6 ⟨ bit_and ⟩ N 3) ⟨ equal ⟩ N 2; value = Boolean true }
    ∷ record { text = "NOT 1 == 1"; formula = NOT (N 1) ⟨ equal ⟩ N 1; value = Undefined }
    ∷ record { text = "NOT ( 1 == 1 )"; formula = NOT (N 1 ⟨ equal ⟩ N 1); value = Boolean false }
    ∷ record { text = "TRUE OR TRUE AND FALSE"; formula = C true' ⟨ or ⟩ (C true' ⟨ and ⟩ C false'); value = Boolean true }
    ∷ record { text = "( TRUE OR TRUE ) AND FALSE"; formula = (C true' ⟨ or ⟩ C true') ⟨ and ⟩ C false'; value = Boolean false }
    ∷ record { text = "4 | 6 & 3"; formula = N 4 ⟨ bit_or ⟩ (N 6 ⟨ bit_and ⟩ N 3); value = Number 6 }
    ∷ record { text = "1 < 2 == TRUE"; formula = (N 1 ⟨ less ⟩ N 2) ⟨ equal ⟩ C true'; value = Boolean true }
    ∷ record { text = "1 << 2 <= 4"; formula = (N 1 ⟨ shift_left ⟩ N 2) ⟨ less_equal ⟩ N 4; value = Boolean true }
    ∷ record { text = "1 << 2 + 3"; formula = N 1 ⟨ shift_left ⟩ (N 2 ⟨ add ⟩ N 3); value = Number 32 }
    ∷ record { text = "2 + 3 * 4"; formula = N 2 ⟨ add ⟩ (N 3 ⟨ multiply ⟩ N 4); value = Number 14 }
    ∷ record { text = "9 - 4 - 3"; formula = (N 9 ⟨ subtract ⟩ N 4) ⟨ subtract ⟩ N 3; value = Number 2 }
    ∷ record { text = "9 - ( 4 - 3 )"; formula = N 9 ⟨ subtract ⟩ (N 4 ⟨ subtract ⟩ N 3); value = Number 8 }
    -- "Sums, differences and products keep their low 64 bits, as does a left shift"
    ∷ record { text = "1 - 2"; formula = N 1 ⟨ subtract ⟩ N 2; value = Number 18446744073709551615 }
    ∷ record { text = "ONES + 1"; formula = C ones' ⟨ add ⟩ N 1; value = Number 0 }
    ∷ record { text = "ONES * ONES"; formula = C ones' ⟨ multiply ⟩ C ones'; value = Number 1 }
    ∷ record { text = "3 << 63"; formula = N 3 ⟨ shift_left ⟩ N 63; value = Number 9223372036854775808 }
    -- "a shift by 64 or more gives 0"
    ∷ record { text = "1 << 64"; formula = N 1 ⟨ shift_left ⟩ N 64; value = Number 0 }
    ∷ record { text = "1 << 65"; formula = N 1 ⟨ shift_left ⟩ N 65; value = Number 0 }
    ∷ record { text = "1 << ONES"; formula = N 1 ⟨ shift_left ⟩ C ones'; value = Number 0 }
    ∷ record { text = "ONES >> 63"; formula = C ones' ⟨ shift_right ⟩ N 63; value = Number 1 }
    ∷ record { text = "ONES >> 64"; formula = C ones' ⟨ shift_right ⟩ N 64; value = Number 0 }
    ∷ record { text = "ONES >> ONES"; formula = C ones' ⟨ shift_right ⟩ C ones'; value = Number 0 }
    -- "a zero divisor gives undefined"
    ∷ record { text = "7 / 0"; formula = N 7 ⟨ divide ⟩ N 0; value = Undefined }
    ∷ record { text = "7 % 0"; formula = N 7 ⟨ modulo ⟩ N 0; value = Undefined }
    ∷ record { text = "0 / 0"; formula = N 0 ⟨ divide ⟩ N 0; value = Undefined }
    ∷ record { text = "1 / ( 1 << 64 )"; formula = N 1 ⟨ divide ⟩ (N 1 ⟨ shift_left ⟩ N 64); value = Undefined }
    ∷ record { text = "7 / 2"; formula = N 7 ⟨ divide ⟩ N 2; value = Number 3 }
    ∷ record { text = "7 % 2"; formula = N 7 ⟨ modulo ⟩ N 2; value = Number 1 }
    -- order is unsigned
    ∷ record { text = "0 - 1 > 5"; formula = (N 0 ⟨ subtract ⟩ N 1) ⟨ greater ⟩ N 5; value = Boolean true }
    ∷ record { text = "5 >= ONES"; formula = N 5 ⟨ greater_equal ⟩ C ones'; value = Boolean false }
    ∷ []

-- an expression's words and its meaning, and what the example says of them
abbrev computed : (ℕ → Scalar) → Example → List Word × Scalar
computed rules e = (map word (print 9 e.formula), meaning none rules e.formula)

abbrev stated : Example → List Word × Scalar
stated e = (words e.text, e.value)

worked : map (computed none) examples ≡ map stated examples
unfolding examples meaning signs reserved lexemes decimal_digits
    applied negated found operations constants sum difference product shifted_left shifted_right divided
worked = refl

-- ---- expressions beside rules

-- the rules, from number 1 on, and an expression that refers to them
record Ruled : Type 0 where
  rules : List Example
  asked : Example

ruled : List Ruled
ruled =
    record {
      rules = record { text = "7"; formula = N 7; value = Number 7 } ∷ [];
      asked = record { text = "ruleref ( R1 ) + 1 == 8"; formula = (R 1 ⟨ add ⟩ N 1) ⟨ equal ⟩ N 8; value = Boolean true };
    }
    -- a later rule is as good as an earlier one
    ∷ record {
      rules =
          record { text = "ruleref ( R2 ) * ruleref ( R3 )"; formula = R 2 ⟨ multiply ⟩ R 3; value = Number 35 }
          ∷ record { text = "ruleref ( R3 ) + 2"; formula = R 3 ⟨ add ⟩ N 2; value = Number 7 }
          ∷ record { text = "5"; formula = N 5; value = Number 5 }
          ∷ [];
      asked = record { text = "ruleref ( R1 ) % ruleref ( R2 )"; formula = R 1 ⟨ modulo ⟩ R 2; value = Number 0 };
    }
    -- a reference has the rule's value with its sort
    ∷ record {
      rules = record { text = "1 == 1"; formula = N 1 ⟨ equal ⟩ N 1; value = Boolean true } ∷ [];
      asked = record { text = "NOT ruleref ( R1 )"; formula = NOT (R 1); value = Boolean false };
    }
    -- undefined, too
    ∷ record {
      rules = record { text = "7 / 0"; formula = N 7 ⟨ divide ⟩ N 0; value = Undefined } ∷ [];
      asked = record { text = "ruleref ( R1 ) == ruleref ( R1 )"; formula = R 1 ⟨ equal ⟩ R 1; value = Undefined };
    }
    ∷ []

-- what its rules are worth
abbrev values : Ruled → ℕ → Scalar
values r = worth (map (λ e. e.formula) r.rules) none

rules_worked : map (λ r. map (computed (values r)) (r.asked ∷ r.rules)) ruled ≡ map (λ r. map stated (r.asked ∷ r.rules)) ruled
unfolding ruled meaning rule_at rounds worth signs reserved lexemes decimal_digits applied negated found operations sum product divided
rules_worked = refl

-- ---- the steps of rules, in source order

infix 90 ◌⇒◌
abbrev ◌⇒◌ : ℕ → ℕ → Step
a ⇒ b = record { from = a; to = b }

stepped : steps ((R 3 ⟨ multiply ⟩ R 2) ∷ (N 2 ⟨ add ⟩ NOT (R 3)) ∷ N 5 ∷ []) ≡ 1 ⇒ 3 ∷ 1 ⇒ 2 ∷ 2 ⇒ 3 ∷ []
unfolding steps_from references
stepped = refl

-- ---- sixty rules, each the sum of the next with itself, and one more

-- such rules from number n on, the last of them 1
unfoldable doubling : ℕ → ℕ → List Formula
doubling n zero = N 1 ∷ []
doubling n (suc k) = (R (suc n) ⟨ add ⟩ R (suc n)) ∷ doubling (suc n) k

unfoldable powers : ℕ → List Scalar
powers zero = Number 1 ∷ []
powers (suc k) = Number (2 ^ suc k) ∷ powers k

-- the value of rule n, of values from rule 1 on
unfoldable value_at : List Scalar → ℕ → Scalar
value_at values zero = Undefined
value_at values (suc n) = get_or values n Undefined

-- values that are what the rules' expressions mean solve the rules' equations
listed : (rules : List Formula) (l : List Scalar) → map (meaning none (value_at l)) rules ≡ l → Solves rules none (value_at l)
unfolding value_at rule_at meaning found constants
listed rules l e = record { solved = each }
  where
    each : (n : ℕ) → value_at l n ≡ meaning none (value_at l) (rule_at rules n)
    each zero = refl
    each (suc n) = ap (λ v. get_or v n Undefined) (sym e) ∙ get_or-map (meaning none (value_at l)) rules n (C undefined')

sixty : Solves (doubling 1 60) none (value_at (powers 60))
unfolding doubling powers value_at meaning applied found operations sum
sixty = listed (doubling 1 60) (powers 60) refl

first_of_sixty : value_at (powers 60) 1 ≡ Number 1152921504606846976
unfolding powers value_at
first_of_sixty = refl
