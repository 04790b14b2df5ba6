-- The verdict from a token on: where nothing was refused yet, and where it was.
-- Assumes nothing.
use Prim.Native.Nat.{ℕ}
use mathlib.Core.Path.{◌≡◌, ap}
use mathlib.Core.Bool.{true, cond}
use mathlib.Core.List.{List, [], ◌∷◌}
use mathlib.Core.Option.{none}
use mathlib.Core.Logic.{◌≢◌}
use native.Mathlib.Decide.{ℕ_discrete}
use lib.Dec.{eqb}
use borrow.Author.Tests.{eq-eqb, ne_eqb}
use Rattle.lex.specs.declared.Token as lex
use Rattle.lexemes.specs.Classes.{END}
use Rattle.ll1.specs.Trees.{Token, token, Depth}
use Rattle.ll1.specs.Verdict.{Verdict, ends_early, refused}
use Rattle.ll1.specs.ParseTable.{predict, nullable}
use Rattle.ll1.specs.Machine.{Due, due}
use Rattle.grammar.specs.Grammar.{rules}
use Rattle.grammar.specs.Notation.{r}
use Rattle.grammar.specs.Lookahead.{lookahead}
use Rattle.grammar.specs.Reading.{verdict_from}
use Rattle.phrases.specs.Stream.{stream, refusal, resume}
use Rattle.phrases.proofs.Streams.{stream_end, stream_first, rest}
use Rattle.grammar.proofs.Equations.{verdict_skip, verdict_skip_end}

module _ (s : List ℕ) (σ : List Due) (n : ℕ) (t : lex.Token) where
  pub resume_on : n ≡ 0 → resume s σ n t ≡ verdict_from σ (stream s t)
  unfolding resume
  resume_on h = rw (eq-eqb n 0 h)

  pub resume_no : n ≢ 0 → resume s σ n t ≡ refusal n t
  unfolding resume
  resume_no h = rw (ne_eqb n 0 h)

module _ (s : List ℕ) (σ τ : List Due) (n : ℕ) (t : lex.Token) where
  -- a refusal stays, whatever is due
  pub resume_off : n ≢ 0 → resume s σ n t ≡ resume s τ n t
  unfolding resume
  resume_off h = rw (ne_eqb n 0 h)

  pub resume_like : ((ts : List Token) → verdict_from σ ts ≡ verdict_from τ ts) → resume s σ n t ≡ resume s τ n t
  unfolding resume
  resume_like h = ap (λ (v : Verdict). cond (eqb n 0) v (refusal n t)) (h (stream s t))

-- a stack that refuses the token refuses it as the reader does
pub refused_here : (s : List ℕ) (σ : List Due) (t : lex.Token) → (t.class ≡ END → verdict_from σ [] ≡ ends_early) → (t.class ≢ END → (p : ℕ) (ts : List Token) → verdict_from σ (token t.class p ∷ ts) ≡ refused 3 p) → verdict_from σ (stream s t) ≡ refusal 3 t
unfolding refusal
refused_here s σ t e m = by (ℕ_discrete t.class END)
  where
    by : Dec (t.class ≡ END) → verdict_from σ (stream s t) ≡ refusal 3 t
    by (yes q) = rw (stream_end s t q, eq-eqb t.class END q) (e q)
    by (no q) = rw (stream_first s t q, ne_eqb t.class END q) (m q t.start (rest s t))

-- a rule that may be absent is, where no alternative starts with the token
pub skipped_here : (s : List ℕ) (t : lex.Token) (d : Depth) (A : ℕ) (σ : List Due) → predict lookahead A t.class ≡ none → nullable rules A ≡ true → verdict_from (due d (r A) ∷ σ) (stream s t) ≡ verdict_from σ (stream s t)
skipped_here s t d A σ e n = by (ℕ_discrete t.class END)
  where
    by : Dec (t.class ≡ END) → verdict_from (due d (r A) ∷ σ) (stream s t) ≡ verdict_from σ (stream s t)
    by (yes q) = rw (stream_end s t q) (verdict_skip_end d A σ n)
    by (no q) = rw (stream_first s t q) (verdict_skip d A σ t.class t.start (rest s t) e n)
