-- What an expression means, by what the questions answer and what the rules are worth (document 02, W-202).
-- Assumes nothing.
use Rattle.std.specs.Prelude.{ℕ}
-- "Values are TRUE or FALSE, an unsigned 64-bit number, or undefined"
use Rattle.operators.specs.declared.Scalar.{Scalar}
use Rattle.operators.specs.declared.Scalar.TheVariants.{Number}
use Rattle.operators.specs.Values.{combined, negated, constant_of}
use Rattle.answers.specs.Expression.{operator_code, constant_code}
use Rattle.formulas.specs.Formula.{Formula, f_number, f_constant, f_question, f_rule, f_not, f_binary}

-- what each question answers and what each rule is worth, by their numbers
module _ (questions rules : ℕ → Scalar) where
  unfoldable pub meaning : Formula → Scalar
  -- N is itself
  meaning (f_number v) = Number v
  -- TRUE FALSE ZERO ONE ONES UNDEFINED: "ZERO, ONE and ONES are 0, 1 and all ones"
  meaning (f_constant c) = constant_of (constant_code c)
  -- questionref ( N ): what the question of that number answers
  meaning (f_question n) = questions n
  -- ruleref ( NAME ): what the rule is worth, of whatever sort
  meaning (f_rule n) = rules n
  -- NOT and the binary operators: by what all their operands mean, for "An operator with an undefined operand is undefined"
  meaning (f_not e) = negated (meaning e)
  meaning (f_binary o l r) = combined (operator_code o) (meaning l) (meaning r)
