-- `print::phrase::Phrase::step` meets its contract.
-- Assumes nothing.
use mathlib.Core.Path.{refl}
use borrow.Author.Rules.{rules}
use Rattle.print.proofs.PhraseLaws.{step_word, step_element}
use Rattle.print.proofs.phrase.Phrase.step.Goals as goal

pub returns-then-want-lt-NAME : goal.returns-then-want-lt-NAME
returns-then-want-lt-NAME c = step_word _ _ _ _ _ _ _ c.requires c.if-want-lt-NAME.true refl refl c.word.ensures

pub returns-then-want : goal.returns-then-want
returns-then-want c = c.enter_group.ensures.steps _ _

pub returns : goal.returns
returns c = step_element _ _ _ _ _ _ _ c.requires {source = c.unwrap_or-source.result} c.if-want-lt-NAME.false c.if-want.false (search rules) refl c.after_one.ensures c.put_from_row.ensures
