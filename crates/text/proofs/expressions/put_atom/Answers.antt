-- `text::expressions::put_atom` meets its contract.
-- Assumes nothing.
use borrow.Author.Tests.{lt-ltb, le-ltb}
use Rattle.lexemes.specs.Classes.{NAME}
use Rattle.text.specs.Operators.{atom_words}
use Rattle.text.proofs.expressions.put_atom.Goals as goal

pub returns-then-class-lt-NAME : goal.returns-then-class-lt-NAME
unfolding atom_words
returns-then-class-lt-NAME c = rw (← c.requires, lt-ltb _ NAME c.if-class-lt-NAME.true) c.word.ensures

pub returns : goal.returns
unfolding atom_words
returns c = rw (← c.requires, le-ltb _ NAME c.if-class-lt-NAME.false) c.put_operand.ensures
