-- `lexemes::bytes::in_word` meets its contract.
use mathlib.Core.Path.{sym}
use Rattle.lexemes.proofs.Steps.{low_word, middle_word, high_word}
use Rattle.lexemes.proofs.bytes.in_word.Goals as goal

pub returns-then-b-lt48 : goal.returns-then-b-lt48
returns-then-b-lt48 c = sym (low_word c.args.b c.if-b-lt48.true)

pub returns-then-b-lt65 : goal.returns-then-b-lt65
returns-then-b-lt65 c = sym (middle_word c.args.b c.if-b-lt48.false c.if-b-lt65.true)

pub returns : goal.returns
returns c = rw c.is_letter.ensures (sym (high_word c.args.b c.if-b-lt65.false))
