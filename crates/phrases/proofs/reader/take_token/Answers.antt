-- `phrases::reader::take_token` meets its contract.
use mathlib.Core.Path.{◌∙◌}
use Rattle.phrases.specs.Phrase.{taking}
use Rattle.phrases.proofs.reader.take_token.Goals as goal

pub push_element-requires : goal.push_element-requires
push_element-requires c = c.requires c.if-want.true

pub returns-then-want-clause-reads : goal.returns-then-want-clause-reads
unfolding taking
returns-then-want-clause-reads c = rw (c.if-want.true, c.push_element.ensures.kept, c.push_element.ensures.noted, c.note_range.ensures.kept, c.note_range.ensures.noted)

pub returns-then-want-clause-lent : goal.returns-then-want-clause-lent
returns-then-want-clause-lent c = c.push_element.ensures.lent ∙ c.note_range.ensures.lent

pub returns-else-want-clause-reads : goal.returns-else-want-clause-reads
unfolding taking
returns-else-want-clause-reads c = rw c.if-want.false
