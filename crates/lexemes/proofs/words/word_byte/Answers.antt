-- `lexemes::words::word_byte` meets its contract.
use mathlib.Core.Path.{sym, ap, ◌∙◌}
use Rattle.lexemes.specs.Bytes.{is_word_byte}
use Rattle.lexemes.proofs.WordParts.{first_byte, first_none}
use Rattle.lexemes.proofs.words.word_byte.Goals as goal

pub returns-then-is_word_byte : goal.returns-then-is_word_byte
returns-then-is_word_byte c =
    let args = c.args in
    let is_word = sym (c.is_word_byte.ensures ∙ ap is_word_byte c.byte_at-b.ensures) ∙ c.if-is_word_byte.true in
    c.byte_at-b.ensures ∙ sym (first_byte args.src.now args.i is_word)

pub returns-else-is_word_byte : goal.returns-else-is_word_byte
returns-else-is_word_byte c =
    let args = c.args in
    let no_word = sym (c.is_word_byte.ensures ∙ ap is_word_byte c.byte_at-b.ensures) ∙ c.if-is_word_byte.false in
    sym (first_none args.src.now args.i no_word)
