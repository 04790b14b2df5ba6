-- `statements::put_form_set` meets its contract.
-- Assumes nothing.
use Rattle.spellings.proofs.Printing.{as_words, printed_then}
use Rattle.statements.proofs.StatementLaws.{form_set_words}
use Rattle.statements.proofs.put_form_set.Goals as goal

pub returns : goal.returns
returns c = as_words (form_set_words _) (printed_then c.put_phrase.ensures c.put_phrase-2.ensures)
