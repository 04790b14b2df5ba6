-- `evaluate::Known::operand_value` meets its contract.
use mathlib.Core.Path.{◌∙◌}
use native.Mathlib.Omega.{arith}
use Rattle.evaluate.proofs.StepLaws.{operand_number_lem, operand_question, operand_rule, operand_constant}
use Rattle.evaluate.proofs.Known.operand_value.Goals as goal

pub returns-in-69 : goal.returns-in-69
returns-in-69 c = operand_number_lem _ _ _ _ c.in-69.is

pub returns-in-64 : goal.returns-in-64
returns-in-64 c = c.value_of.ensures ∙ operand_question _ _ _ _ (λ e. omega arith) c.in-64.is

pub returns-in-63 : goal.returns-in-63
returns-in-63 c = c.value_at.ensures ∙ operand_rule _ _ _ _ (λ e. omega arith) (λ e. omega arith) c.in-63.is

pub returns-in_default : goal.returns-in_default
returns-in_default c = c.constant.ensures ∙ operand_constant _ _ _ _ (λ e. omega arith) (λ e. omega arith) (λ e. omega arith)
