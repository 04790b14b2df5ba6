-- `statements::put_expression_end` meets its contract.
-- Assumes nothing.
use borrow.Author.Tests.{eq-eqb, ne_eqb}
use Rattle.statements.specs.Statements.{expression_end}
use Rattle.spellings.proofs.Printing.{as_words}
use Rattle.statements.proofs.StatementLaws.{rule_close_words, expression_close_words}
use Rattle.statements.proofs.put_expression_end.Goals as goal

pub returns-then-code-eq-RULE : goal.returns-then-code-eq-RULE
unfolding expression_end
returns-then-code-eq-RULE c = rw (eq-eqb _ 24 c.if-code-eq-RULE.true) (as_words (rule_close_words _) c.put_plain.ensures)

pub returns : goal.returns
unfolding expression_end
returns c = rw (ne_eqb _ 24 c.if-code-eq-RULE.false) (as_words (expression_close_words _) c.put_plain-2.ensures)
