-- The tokens of a source from a token on, case by case.
-- Assumes nothing.
use Prim.Native.Nat.{ℕ, suc, ◌+◌, ◌≤◌, ◌<◌}
use mathlib.Core.Path.{◌≡◌, sym, ap, ◌∙◌}
use mathlib.Core.Bool.{Bool, true, false, cond, ◌&&◌}
use mathlib.Core.List.{List, [], ◌∷◌}
use mathlib.Core.Logic.{◌≢◌}
use native.Mathlib.Omega.{arith}
use native.Mathlib.Decide.{dec_le, dec_lt}
use lib.Dec.{eqb, ltb, leb}
use lib.ListN.{length, drop_of_length-le}
use borrow.Author.Tests.{eq-eqb, ne_eqb, lt-ltb, le-ltb, lt-leb, leb-false}
use Rattle.lex.specs.declared.Token as lex
use Rattle.lexemes.specs.Classes.{BAD, END}
use Rattle.lex.specs.Tokens.{gap, token_from, token_after_gap, token_at, tokens_within, tokens_from, tokens}
use Rattle.lex.proofs.Progress.{past_end, token_moves}
use Rattle.lex.proofs.TokenList.{tokens_unfold, tokens_count}
use Rattle.ll1.specs.Trees.{Token, token}
use Rattle.grammar.specs.Source.{grammar_tokens, source_tokens}
use Rattle.phrases.specs.Stream.{stream, Within}
use Rattle.phrases.specs.Phrase.{starts_past}

-- past the source there are none
none_past : (s : List ℕ) (at : ℕ) → length s ≤ at → grammar_tokens (tokens_from s at) ≡ []
unfolding tokens_from tokens_within token_after_gap token_from gap grammar_tokens
none_past s at h = rw (drop_of_length-le s h)

-- the tokens from a place on are those from the token at that place on
stream_at : (s : List ℕ) (at : ℕ) → grammar_tokens (tokens_from s at) ≡ stream s (token_at s at)
unfolding stream grammar_tokens
stream_at s at = by (dec_le at (length s))
  where
    by : Dec (at ≤ length s) → grammar_tokens (tokens_from s at) ≡ stream s (token_at s at)
    by (yes h) = ap grammar_tokens (tokens_unfold s at h)
    by (no h) = none_past s at (omega arith) ∙ sym (rw (past_end s at (omega arith)))

pub stream_source : (s : List ℕ) → stream s (token_at s 0) ≡ source_tokens s
unfolding source_tokens tokens
stream_source s = sym (stream_at s 0)

module _ (s : List ℕ) (t : lex.Token) where
  -- a token with bytes, and then those from the next one on
  pub stream_on : t.class < BAD → stream s t ≡ token t.class t.start ∷ stream s (token_at s t.end)
  unfolding stream grammar_tokens
  stream_on h =
      rw (ne_eqb t.class END (λ e. omega arith), lt-ltb t.class BAD h) (ap (◌∷◌ (token t.class t.start)) (stream_at s t.end))

  pub stream_end : t.class ≡ END → stream s t ≡ []
  unfolding stream grammar_tokens
  stream_end h = rw (eq-eqb t.class END h)

  -- any token but the end comes first
  pub rest : List Token
  rest = grammar_tokens (cond (ltb t.class BAD) (tokens_from s t.end) [])

  pub stream_first : t.class ≢ END → stream s t ≡ token t.class t.start ∷ rest
  unfolding stream grammar_tokens rest
  stream_first h = rw (ne_eqb t.class END h)

  -- a token with bytes leaves fewer tokens
  pub stream_falls : t.class < BAD → length (stream s t) ≡ suc (length (stream s (token_at s t.end)))
  stream_falls h = ap length (stream_on h)

grammar_few : (ts : List lex.Token) → length (grammar_tokens ts) ≤ length ts
unfolding grammar_tokens
grammar_few [] = omega arith
grammar_few (t ∷ ts) = by (grammar_few ts) (eqb t.class END)
  where
    by : length (grammar_tokens ts) ≤ length ts → (b : Bool) → length (cond b [] (token t.class t.start ∷ grammar_tokens ts)) ≤ suc (length ts)
    by h true = omega arith
    by h false = omega arith

-- no more tokens than bytes, but for a bad one
pub stream_few : (s : List ℕ) (at : ℕ) → length (stream s (token_at s at)) ≤ length s + 1
stream_few s at = rw (← stream_at s at) (omega (arith, grammar_few (tokens_from s at), tokens_count s at))

pub within_at : (s : List ℕ) (at : ℕ) → Within s (token_at s at)
within_at s at h = omega (arith, token_moves s at h)

-- ---- a token that starts past the source

module _ (s : List ℕ) (t : lex.Token) where
  pub not_past : Within s t → starts_past s t ≡ false
  not_past w = by (dec_lt t.class BAD)
    where
      by : Dec (t.class < BAD) → starts_past s t ≡ false
      by (yes l) = rw (lt-ltb t.class BAD l) (lt-leb (length s) t.start (w l))
      by (no h) = rw (le-ltb t.class BAD (omega arith))

  pub else_within : starts_past s t ≡ false → Within s t
  else_within h l = leb-false (length s) t.start (let e : (true && leb (length s) t.start) ≡ false = rw (lt-ltb t.class BAD l) at h in e)
