-- `lex::token_from` meets its contract.
use mathlib.Core.Path.{sym, ◌∙◌}
use Rattle.lex.proofs.Cases.{from_word, from_sign}
use Rattle.lex.proofs.token_from.Goals as goal

pub returns-then-not-in_word : goal.returns-then-not-in_word
returns-then-not-in_word c = c.sign_token.ensures ∙ from_sign c.args.src.now c.args.at c.requires (sym c.in_word.ensures ∙ c.if-not-in_word.true)

pub number_token-requires : goal.number_token-requires
number_token-requires c = (c.requires, sym c.is_digit.ensures ∙ c.if-is_digit.true)

pub returns-then-is_digit : goal.returns-then-is_digit
returns-then-is_digit c = c.number_token.ensures ∙ from_word c.args.src.now c.args.at c.requires (sym c.in_word.ensures ∙ c.if-not-in_word.false)

pub word_token-requires : goal.word_token-requires
word_token-requires c = (c.requires, sym c.in_word.ensures ∙ c.if-not-in_word.false, sym c.is_digit.ensures ∙ c.if-is_digit.false)

pub returns-else-is_digit : goal.returns-else-is_digit
returns-else-is_digit c = c.word_token.ensures ∙ from_word c.args.src.now c.args.at c.requires (sym c.in_word.ensures ∙ c.if-not-in_word.false)
