-- `lex::words::number_class` meets its contract.
use mathlib.Core.Path.{sym, ◌∙◌}
use Rattle.lex.specs.Tokens.{word_class}
use Rattle.lex.proofs.words.number_class.Goals as goal

pub returns-then-all_digits : goal.returns-then-all_digits
unfolding word_class
returns-then-all_digits c = rw (c.requires, sym c.all_digits.ensures ∙ c.if-all_digits.true)

pub returns-then-is_hex : goal.returns-then-is_hex
unfolding word_class
returns-then-is_hex c = rw (c.requires, sym c.all_digits.ensures ∙ c.if-all_digits.false, sym c.is_hex.ensures ∙ c.if-is_hex.true)

pub returns-else-is_hex : goal.returns-else-is_hex
unfolding word_class
returns-else-is_hex c = rw (c.requires, sym c.all_digits.ensures ∙ c.if-all_digits.false, sym c.is_hex.ensures ∙ c.if-is_hex.false)
