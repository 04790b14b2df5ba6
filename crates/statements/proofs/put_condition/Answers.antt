-- `statements::put_condition` meets its contract.
-- Assumes nothing.
use Rattle.lexemes.specs.Lexemes.{lexemes, signs, reserved}
use Rattle.statements.specs.Statements.{condition_words}
use Rattle.spellings.proofs.Printing.{as_words, printed_none}
use Rattle.statements.proofs.StatementLaws.{no_condition}
use Rattle.statements.proofs.put_condition.Goals as goal

pub returns-in-10 : goal.returns-in-10
unfolding condition_words lexemes signs reserved
returns-in-10 c = rw c.in-10.is c.word.ensures

pub returns-in-25 : goal.returns-in-25
unfolding condition_words lexemes signs reserved
returns-in-25 c = rw c.in-25.is c.word-in-25.ensures

pub returns-in-30 : goal.returns-in-30
unfolding condition_words lexemes signs reserved
returns-in-30 c = rw c.in-30.is c.word-in-30.ensures

pub returns-in_default : goal.returns-in_default
returns-in_default c = as_words (no_condition _ c.in_default.in_default-own.rest) printed_none
