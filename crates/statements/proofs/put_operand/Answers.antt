-- `statements::put_operand` meets its contract.
-- Assumes nothing.
use mathlib.Core.Path.{sym, ◌∙◌}
use Rattle.spellings.proofs.Printing.{as_words}
use Rattle.statements.proofs.StatementLaws.{operand_question, operand_rule, operand_number_lem}
use Rattle.statements.proofs.put_operand.Goals as goal

pub returns-in-64 : goal.returns-in-64
returns-in-64 c = as_words (operand_question _ (sym c.cell.ensures ∙ c.in-64.is)) c.put_phrase.ensures

pub returns-in-63 : goal.returns-in-63
returns-in-63 c = as_words (operand_rule _ (sym c.cell.ensures ∙ c.in-63.is)) c.put_phrase-in-63.ensures

pub returns-in_default : goal.returns-in_default
returns-in_default c = as_words (operand_number_lem _ (λ e. c.in_default.in_default-own.rest.0.1 (c.cell.ensures ∙ e)) (λ e. c.in_default.in_default-own.rest.1 (c.cell.ensures ∙ e))) (rw c.cell-in_default.ensures at c.put_element.ensures)
