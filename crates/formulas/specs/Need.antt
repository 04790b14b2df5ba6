-- How many values wait at most while an expression is evaluated from left to right, operands before operator.
-- Assumes nothing.
use Rattle.std.specs.Prelude.{ℕ, suc, max, ◌+◌, ◌*◌}
use Rattle.grammar.specs.Derivation.{max_groups}
use Rattle.formulas.specs.Formula.{Formula, f_number, f_constant, f_question, f_rule, f_not, f_binary}

-- the left operand's value waits while the right one is evaluated
unfoldable pub need : Formula → ℕ
need (f_number v) = 1
need (f_constant c) = 1
need (f_question n) = 1
need (f_rule n) = 1
need (f_not e) = need e
need (f_binary o l r) = max (need l) (suc (need r))

-- no expression of an accepted source needs more: nine levels outside all groups and in each of them, and the value at hand
abbrev pub MOST_WAITING : ℕ
MOST_WAITING = 9 + 9 * max_groups + 1
