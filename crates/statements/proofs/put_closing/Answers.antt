-- `statements::put_closing` meets its contract.
-- Assumes nothing.
use Rattle.statements.specs.Statements.{closing}
use Rattle.spellings.proofs.Printing.{as_words, printed_none}
use Rattle.statements.proofs.StatementLaws.{form_set_close_words, form_close_words, one_of_close_words, no_closing, condition_closes}
use Rattle.statements.proofs.put_closing.Goals as goal

pub returns-in-14 : goal.returns-in-14
unfolding closing
returns-in-14 c = rw c.in-14.is (as_words (form_set_close_words _) c.put_plain.ensures)

pub returns-in-1 : goal.returns-in-1
unfolding closing
returns-in-1 c = rw c.in-1.is (as_words (form_close_words _) c.put_plain-in-1.ensures)

pub returns-in-5 : goal.returns-in-5
unfolding closing
returns-in-5 c = rw c.in-5.is (as_words (one_of_close_words _) c.put_plain-in-5.ensures)

pub returns-in-10 : goal.returns-in-10
returns-in-10 c = as_words (condition_closes _ c.in-10.is) c.put_plain-in-10.ensures

pub returns-in_default : goal.returns-in_default
returns-in_default c = as_words (no_closing _ c.in_default.in_default-own.rest.0 c.in_default.in_default-own.rest.1) printed_none
