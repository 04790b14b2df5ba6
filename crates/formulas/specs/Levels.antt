-- The levels of the grammar's expressions by height, and the alternatives of operators and constants in its table.
-- Assumes nothing.
use Rattle.std.specs.Prelude.{ℕ, ◌-◌, ◌*◌}
use Rattle.grammar.specs.Rules.{<atom>, <product>*}
use Rattle.answers.specs.Expression.{Operator, or, and, bit_or, bit_and, equal, not_equal, less, less_equal, greater, greater_equal, shift_left, shift_right, add, subtract, multiply, divide, modulo}
use Rattle.answers.specs.Expression.{Constant, true', false', zero', one', ones', undefined'}

-- ---- the levels: lv n has n tighter ones below it, tl n is what may follow the first operand of lv (suc n)

abbrev pub lv : ℕ → ℕ
lv n = <atom> - 2 * n

abbrev pub tl : ℕ → ℕ
tl n = <product>* - 2 * n

-- an operator's alternative among those of its level
abbrev pub alternative : Operator → ℕ
alternative or = 1
alternative and = 1
alternative bit_or = 1
alternative bit_and = 1
alternative equal = 1
alternative not_equal = 2
alternative less = 1
alternative less_equal = 2
alternative greater = 3
alternative greater_equal = 4
alternative shift_left = 1
alternative shift_right = 2
alternative add = 1
alternative subtract = 2
alternative multiply = 1
alternative divide = 2
alternative modulo = 3

-- a constant's alternative among the atoms
abbrev pub constant_alternative : Constant → ℕ
constant_alternative true' = 2
constant_alternative false' = 3
constant_alternative zero' = 4
constant_alternative one' = 5
constant_alternative ones' = 6
constant_alternative undefined' = 7
