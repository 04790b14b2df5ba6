-- Elements of one token: each reads its symbol of the grammar.
-- Assumes nothing.
use Prim.Native.Nat.{ℕ, ◌≤◌, ◌<◌}
use mathlib.Core.Path.{◌≡◌, refl, sym, ◌∙◌, subst}
use mathlib.Core.Bool.{cond}
use mathlib.Core.List.{List, [], ◌∷◌, map}
use native.Mathlib.Omega.{arith}
use lib.Dec.{eqb}
use lib.ListN.{length}
use borrow.Author.Tests.{ne_eqb}
use Rattle.lexemes.specs.Classes.{NAME}
use Rattle.lex.specs.Tokens.{token_at}
use Rattle.ll1.specs.Trees.{Token, token, Symbol, Depth}
use Rattle.ll1.specs.Verdict.{ends_early, refused}
use Rattle.ll1.specs.ParseTable.{member}
use Rattle.ll1.specs.Machine.{Due, due}
use Rattle.grammar.specs.Notation.{t}
use Rattle.grammar.specs.Reading.{verdict_from}
use Rattle.grammar.specs.Ranges.{Range, free, keeps, out_of}
use Rattle.grammar.proofs.Equations.{verdict_miss, verdict_ends}
use Rattle.elements.specs.Marks.{outside, noting}
use Rattle.elements.specs.Kinds.{REFERENCE, MAYBE, starts_of, element_range, element_entries}
use Rattle.elements.proofs.KindLaws.{starts_word, not_kept, not_list}
use Rattle.elements.proofs.Ways.{either_way, Taken, word_taken, member_one, member_other, each, Kind, width, width_is}
use Rattle.phrases.specs.Stream.{stream}
use Rattle.phrases.specs.Phrase.{Reader, with_entries, ready, refusing, taking, reading}
use Rattle.phrases.proofs.Streams.{stream_on, within_at}
use Rattle.phrases.proofs.Resume.{resume_on, resume_no, refused_here}
use Rattle.phrases.proofs.Pieces.{One}

-- ---- the token is there, or another

module _ (s : List ℕ) (x : Symbol) (c : Reader) (z : c.no ≡ 0) where
  -- past the token
  abbrev pub past_token : List ℕ → Range → Reader
  past_token es range =
      ready (token_at s c.token.end) (noting c.noted (map outside (out_of s range (c.token.start ∷ [])))) (with_entries c.kept es)

  pub one_taken : (n : ℕ) (es : ℕ → List ℕ) (range : Range) → length (es c.token.start) ≤ n → Taken x c.token.class es range → One s x n c (past_token (es c.token.start) range)
  one_taken n es range few w =
      let p = c.token.start in
      let next = token_at s c.token.end in
      let on = stream_on s c.token w.below in
      record {
        skip = refl;
        verdict = λ σ d o. resume_on s (due d x ∷ σ) c.no c.token z ∙ (rw on (w.way.eats d σ p (stream s next) o) ∙ sym (resume_on s σ 0 next refl));
        got = λ q.
            record {
              before = z;
              tree = w.way.tree p;
              own = token c.token.class p ∷ [];
              kept_own = es p;
              faults_own = map outside (out_of s range (p ∷ []));
              fits = w.way.fits p;
              few = few;
              leaves_are = w.way.leaf_is p;
              entries_are = w.entries_are p;
              faults_are = w.faults_are s p;
              reads = sym on;
              kept = refl;
              noted = refl;
            };
        within = λ h. within_at s c.token.end;
      }

  pub one_refused : (n : ℕ) → ((d : Depth) (σ : List Due) → verdict_from (due d x ∷ σ) [] ≡ ends_early) → ((d : Depth) (σ : List Due) (p : ℕ) (ts : List Token) → verdict_from (due d x ∷ σ) (token c.token.class p ∷ ts) ≡ refused 3 p) → One s x n c (refusing c c.token)
  one_refused n ends misses =
      record {
        skip = refl;
        verdict = λ σ d o. resume_on s (due d x ∷ σ) c.no c.token z ∙ (refused_here s (due d x ∷ σ) c.token (λ q. ends d σ) (λ q p ts. misses d σ p ts) ∙ sym (resume_no s σ 3 c.token (λ q. omega arith)));
        got = λ q. absurd (omega arith);
        within = λ h. h;
      }

-- ---- elements

-- the element e reads the symbol x
abbrev pub Element : Symbol → ℕ → Type 0
Element x e = (s : List ℕ) (c : Reader) (next : ℕ) → c.no ≡ 0 → One s x (width e) c (reading s c e next)

-- a sign or a reserved word
pub word : (k : ℕ) → k < NAME → Element (t k) k
unfolding reading taking with_entries keeps noting
word k h s c next z =
    rw (ne_eqb k MAYBE (λ e. omega arith), starts_word k (omega arith))
    (either_way (member c.token.class (k ∷ []))
    (λ m.
    rw (m, not_list k h, not_kept k h)
    (let q : k ≡ c.token.class = member_one c.token.class k m in
    one_taken s (t k) c z 0 (λ p. []) free (omega arith) (subst (λ (j : ℕ). Taken (t k) j (λ p. []) free) q (word_taken k h))))
    (λ m.
    rw m
    (one_refused s (t k) c z _ (λ d σ. verdict_ends d σ k) (λ d σ p ts. verdict_miss d σ k c.token.class p ts (member_other c.token.class k m)))))

-- an element that keeps something
pub kind : {x : Symbol} {e : ℕ} → Kind x e → Element x e
unfolding reading taking
kind {x} {e} w s c next z =
    rw w.not_maybe
    (either_way (member c.token.class (starts_of e))
    (λ m. rw (m, w.not_flags, w.is_kept_lem) (one_taken s x c z (cond (eqb e REFERENCE) 2 1) (element_entries e c.token.class) (element_range e c.token.class) (width_is e c.token.class c.token.start) (each _ (starts_of e) w.takes c.token.class m)))
    (λ m. rw m (one_refused s x c z _ w.ends (w.misses c.token.class m))))
