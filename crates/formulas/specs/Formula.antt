-- Expressions by their values, with no places; and how deep the groups of their text nest.
-- Assumes nothing.
use Rattle.std.specs.Prelude.{List, Bool, true, false, ℕ, suc, max, leb}
use Rattle.answers.specs.Expression.{Operator, or, and, bit_or, bit_and, equal, not_equal, less, less_equal, greater, greater_equal, shift_left, shift_right, add, subtract, multiply, divide, modulo}
use Rattle.answers.specs.Expression.{Constant, Expression, number, constant, question_named, question_numbered, rule_named, negation, binary}
use Rattle.answers.specs.Text.{operand_number}

-- ---- expressions by their values

pub data Formula : Type 0 where
  f_number : ℕ → Formula
  f_constant : Constant → Formula
  f_question f_rule : ℕ → Formula
  f_not : Formula → Formula
  f_binary : Operator → Formula → Formula → Formula

-- the rows of a source tell the values
module _ (look : ℕ → List ℕ) where
  abbrev pub formula : Expression → Formula
  formula (number p) = f_number (operand_number look p)
  formula (constant c p) = f_constant c
  formula (question_named p q) = f_question (operand_number look p)
  formula (question_numbered p q) = f_question (operand_number look p)
  formula (rule_named p q) = f_rule (operand_number look p)
  formula (negation p e) = f_not (formula e)
  formula (binary o p l r) = f_binary o (formula l) (formula r)

-- ---- how deep their text goes

-- an operator's height: how many of the nine levels are tighter than its own
abbrev pub tight : Operator → ℕ
tight or = 8
tight and = 7
tight bit_or = 6
tight bit_and = 5
tight equal = 4
tight not_equal = 4
tight less = 3
tight less_equal = 3
tight greater = 3
tight greater_equal = 3
tight shift_left = 2
tight shift_right = 2
tight add = 1
tight subtract = 1
tight multiply = 0
tight divide = 0
tight modulo = 0

-- how many parentheses and NOTs stand open at most
abbrev pub inward : Bool → ℕ → ℕ
inward true k = suc k
inward false k = k

abbrev pub nest : ℕ → Formula → ℕ
nest n (f_number v) = 0
nest n (f_constant c) = 0
nest n (f_question q) = 0
nest n (f_rule q) = 0
nest n (f_not e) = suc (nest 0 e)
nest n (f_binary o l r) = inward (leb n (tight o)) (max (nest (suc (tight o)) l) (nest (tight o) r))
