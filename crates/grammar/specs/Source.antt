-- What a source has at a place, and its tokens as the grammar takes them (document 01, Tokens and Grammar).
-- Assumes nothing.
use Rattle.std.specs.Prelude.{ℕ, cond, List, [], ◌∷◌, eqb, Option, Some, None}
use Rattle.lex.specs.declared.Token as lex
use Rattle.lexemes.specs.Classes.{END}
use Rattle.values.specs.Numbers.{value_at}
use Rattle.lex.specs.Tokens.{tokens}
use Rattle.ll1.specs.Trees.{Token, token}

-- class and place of each token but the end
unfoldable pub grammar_tokens : List lex.Token → List Token
grammar_tokens [] = []
grammar_tokens (t ∷ ts) = let more = token t.class t.start ∷ grammar_tokens ts in cond (eqb t.class END) [] more

-- the tokens of a source; a bad one is the last of them, and no symbol of the grammar takes it
unfoldable pub source_tokens : List ℕ → List Token
source_tokens s = grammar_tokens (tokens s)

-- a number's value as a row holds it; one of 2^64 or more, which refusal 5 shuts out, counts as 0
abbrev pub held_value : Option ℕ → ℕ
held_value (Some v) = v
held_value None = 0

-- the value of the number that starts at a place
unfoldable pub number_at : List ℕ → ℕ → ℕ
number_at s p = held_value (value_at s p)
