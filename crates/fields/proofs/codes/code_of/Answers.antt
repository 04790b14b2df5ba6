-- `fields::codes::code_of` meets its contract: each word has its code, and any other class none.
-- Assumes nothing.
use mathlib.Core.Path.{sym}
use Rattle.fields.specs.Words.{word_codes, code_of}
use Rattle.fields.proofs.LookUps.{missed}
use Rattle.fields.proofs.codes.code_of.Goals as goal

pub returns-in-13 : goal.returns-in-13
unfolding code_of word_codes
returns-in-13 c = rw c.in-13.is

pub returns-in-34 : goal.returns-in-34
unfolding code_of word_codes
returns-in-34 c = rw c.in-34.is

pub returns-in-35 : goal.returns-in-35
unfolding code_of word_codes
returns-in-35 c = rw c.in-35.is

pub returns-in-41 : goal.returns-in-41
unfolding code_of word_codes
returns-in-41 c = rw c.in-41.is

pub returns-in_default : goal.returns-in_default
unfolding code_of word_codes
returns-in_default c = sym (missed word_codes 0 _ c.in_default.in_default-own.rest)
