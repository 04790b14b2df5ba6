-- The tokens of a source from a token on, as the grammar takes them, and the verdict from there.
-- Assumes nothing.
use Rattle.std.specs.Prelude.{ℕ, ◌<◌, cond, List, [], ◌∷◌, eqb, ltb, length}
use Rattle.lex.specs.declared.Token as lex
use Rattle.lexemes.specs.Classes.{BAD, END}
use Rattle.lex.specs.Tokens.{tokens_from}
use Rattle.ll1.specs.Trees.{Token}
use Rattle.ll1.specs.Verdict.{Verdict, ends_early, refused}
use Rattle.ll1.specs.Machine.{Due}
use Rattle.grammar.specs.Reading.{verdict_from}
use Rattle.grammar.specs.Source.{grammar_tokens}

-- the token t and those after it; after a bad one there are none, and the end is no token of the grammar
unfoldable pub stream : List ℕ → lex.Token → List Token
stream s t = grammar_tokens (t ∷ cond (ltb t.class BAD) (tokens_from s t.end) [])

-- the verdict of a refusal at a token; at the end the source ends early
unfoldable pub refusal : ℕ → lex.Token → Verdict
refusal n t = cond (eqb t.class END) ends_early (refused n t.start)

-- the verdict where the symbols σ are due from the token t on, or the refusal that was given
unfoldable pub resume : List ℕ → List Due → ℕ → lex.Token → Verdict
resume s σ n t = cond (eqb n 0) (verdict_from σ (stream s t)) (refusal n t)

-- a token with bytes starts within the source
abbrev pub Within : List ℕ → lex.Token → Type 0
Within s t = t.class < BAD → t.start < length s
