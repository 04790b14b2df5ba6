-- The levels and the words of operators and constants, by their codes.
-- Assumes nothing.
use Prim.Native.Nat.{◌<◌}
use native.Mathlib.Omega.{arith}
use mathlib.Core.Path.{◌≡◌, refl}
use Rattle.rows.specs.Codes as code
use Rattle.lexemes.specs.Classes.{NAME}
use Rattle.answers.specs.Expression.{Operator, or, and, bit_or, bit_and, equal, not_equal, less, less_equal, greater, greater_equal, shift_left, shift_right, add, subtract, multiply, divide, modulo, operator_code, operator_class, level, Constant, true', false', zero', one', ones', undefined', constant_code, constant_class}
use Rattle.fields.specs.Operators.{LEVELS, operator_levels, level_of, code_classes, code_class}
use Rattle.text.specs.Operators.{code_level}

pub operator_level : (o : Operator) → code_level (operator_code o) ≡ level o
unfolding level_of operator_levels code_class code_classes
operator_level or = refl
operator_level and = refl
operator_level bit_or = refl
operator_level bit_and = refl
operator_level equal = refl
operator_level not_equal = refl
operator_level less = refl
operator_level less_equal = refl
operator_level greater = refl
operator_level greater_equal = refl
operator_level shift_left = refl
operator_level shift_right = refl
operator_level add = refl
operator_level subtract = refl
operator_level multiply = refl
operator_level divide = refl
operator_level modulo = refl

pub operator_class_lem : (o : Operator) → code_class (operator_code o) ≡ operator_class o
unfolding code_class code_classes
operator_class_lem or = refl
operator_class_lem and = refl
operator_class_lem bit_or = refl
operator_class_lem bit_and = refl
operator_class_lem equal = refl
operator_class_lem not_equal = refl
operator_class_lem less = refl
operator_class_lem less_equal = refl
operator_class_lem greater = refl
operator_class_lem greater_equal = refl
operator_class_lem shift_left = refl
operator_class_lem shift_right = refl
operator_class_lem add = refl
operator_class_lem subtract = refl
operator_class_lem multiply = refl
operator_class_lem divide = refl
operator_class_lem modulo = refl

pub constant_class_lem : (c : Constant) → code_class (constant_code c) ≡ constant_class c
unfolding code_class code_classes
constant_class_lem true' = refl
constant_class_lem false' = refl
constant_class_lem zero' = refl
constant_class_lem one' = refl
constant_class_lem ones' = refl
constant_class_lem undefined' = refl

pub constant_level : (c : Constant) → code_level (constant_code c) ≡ LEVELS
unfolding level_of operator_levels code_class code_classes
constant_level true' = refl
constant_level false' = refl
constant_level zero' = refl
constant_level one' = refl
constant_level ones' = refl
constant_level undefined' = refl

pub level_low : (o : Operator) → level o < LEVELS
level_low or = omega arith
level_low and = omega arith
level_low bit_or = omega arith
level_low bit_and = omega arith
level_low equal = omega arith
level_low not_equal = omega arith
level_low less = omega arith
level_low less_equal = omega arith
level_low greater = omega arith
level_low greater_equal = omega arith
level_low shift_left = omega arith
level_low shift_right = omega arith
level_low add = omega arith
level_low subtract = omega arith
level_low multiply = omega arith
level_low divide = omega arith
level_low modulo = omega arith

pub constant_word : (c : Constant) → constant_class c < NAME
constant_word true' = omega arith
constant_word false' = omega arith
constant_word zero' = omega arith
constant_word one' = omega arith
constant_word ones' = omega arith
constant_word undefined' = omega arith

pub operator_not : (o : Operator) → operator_code o ≡ code.NOT → ⊥
operator_not or e = omega arith
operator_not and e = omega arith
operator_not bit_or e = omega arith
operator_not bit_and e = omega arith
operator_not equal e = omega arith
operator_not not_equal e = omega arith
operator_not less e = omega arith
operator_not less_equal e = omega arith
operator_not greater e = omega arith
operator_not greater_equal e = omega arith
operator_not shift_left e = omega arith
operator_not shift_right e = omega arith
operator_not add e = omega arith
operator_not subtract e = omega arith
operator_not multiply e = omega arith
operator_not divide e = omega arith
operator_not modulo e = omega arith

pub constant_not : (c : Constant) → constant_code c ≡ code.NOT → ⊥
constant_not true' e = omega arith
constant_not false' e = omega arith
constant_not zero' e = omega arith
constant_not one' e = omega arith
constant_not ones' e = omega arith
constant_not undefined' e = omega arith

-- NOT, numbers and references

pub not_level : code_level code.NOT ≡ LEVELS
unfolding level_of operator_levels code_class code_classes
not_level = refl

pub number_level : code_level code.NUMBER ≡ LEVELS
unfolding level_of operator_levels code_class code_classes
number_level = refl

pub question_level : code_level code.QUESTION_REF ≡ LEVELS
unfolding level_of operator_levels code_class code_classes
question_level = refl

pub rule_level : code_level code.RULE_REF ≡ LEVELS
unfolding level_of operator_levels code_class code_classes
rule_level = refl

pub number_class : code_class code.NUMBER ≡ NAME
unfolding code_class code_classes
number_class = refl

pub question_class : code_class code.QUESTION_REF ≡ NAME
unfolding code_class code_classes
question_class = refl

pub rule_class : code_class code.RULE_REF ≡ NAME
unfolding code_class code_classes
rule_class = refl
