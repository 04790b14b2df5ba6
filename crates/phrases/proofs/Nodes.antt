-- Rules that a phrase writes out: a rule of one alternative, and one that may be absent.
-- Assumes nothing.
use Prim.Native.Nat.{ℕ, ◌<◌}
use mathlib.Core.Path.{◌≡◌, refl, sym, ap, ◌∙◌}
use mathlib.Core.List.{List, [], ◌∷◌, ◌++◌}
use mathlib.Core.Option.{some}
use mathlib.Core.Logic.{◌≢◌}
use native.Mathlib.Omega.{arith}
use Rattle.lexemes.specs.Classes.{BAD}
use Rattle.lex.specs.Tokens.{token_at}
use Rattle.ll1.specs.Trees.{nil, node, leaves, Symbol, alternative_of, fits_nil, fits_node, Depth}
use Rattle.ll1.specs.ParseTable.{predict}
use Rattle.ll1.specs.Machine.{Due, due, due_all}
use Rattle.grammar.specs.Grammar.{rules}
use Rattle.grammar.specs.Notation.{t, r, plain}
use Rattle.grammar.specs.Lookahead.{lookahead}
use Rattle.grammar.specs.Reading.{verdict_from}
use Rattle.grammar.specs.Ranges.{gathered}
use Rattle.grammar.proofs.Equations.{verdict_in, verdict_open}
use Rattle.elements.specs.Entries.{entries}
use Rattle.elements.specs.Marks.{faults, noting}
use Rattle.elements.proofs.TreeLaws.{entries_node, faults_node}
use Rattle.elements.proofs.Alternatives.{Plain, Single, Optional}
use Rattle.phrases.specs.Stream.{stream, resume}
use Rattle.phrases.specs.Phrase.{Reader, ready, with_entry, with_entries}
use Rattle.phrases.proofs.Streams.{stream_on}
use Rattle.phrases.proofs.Resume.{resume_on, resume_like, skipped_here}
use Rattle.phrases.proofs.Pieces.{Grew, One, Many}

-- without a part that is absent
abbrev pub without : Reader → Reader
without c = ready c.token c.noted (with_entry c.kept 0)

module _ (s : List ℕ) {A : ℕ} where
  -- the tree of a rule over the trees of its alternative
  node_grew : (i : ℕ) {x : Symbol} {β : List Symbol} {w : ℕ} {c c₁ : Reader} → Plain A → alternative_of rules A i ≡ some (plain (x ∷ β)) → Many s (x ∷ β) w c c₁ → c₁.no ≡ 0 → Grew s (r A) w c c₁
  node_grew i p e m q =
      let g = m.got q in
      let f = g.trees in
      record {
        before = g.before;
        tree = node A i f;
        own = leaves f;
        kept_own = entries f;
        faults_own = faults s f;
        fits = λ α h k. fits_node e g.fits k;
        few = g.few;
        leaves_are = λ h. refl;
        entries_are = λ h. entries_node A i h g.fits ∙ ap (λ (l : List ℕ). l ++ entries h) (p.keeps_parts i f (entries f));
        faults_are = λ h. faults_node s A i f h (p.no_faults s i f);
        reads = g.reads;
        kept = g.kept;
        noted = g.noted;
      }

  pub one_single : {x : Symbol} {β : List Symbol} {n : ℕ} {c c₁ : Reader} → Single A (x ∷ β) → Many s (x ∷ β) n c c₁ → One s (r A) n c c₁
  one_single {x} {β} {c = c} w m =
      record {
        skip = m.skip;
        verdict = λ σ d o.
            resume_like s (due d (r A) ∷ σ) (due_all d (x ∷ β) ++ σ) c.no c.token (λ ts. verdict_open d A σ (plain (x ∷ β)) ts w.full w.only w.told)
            ∙ m.verdict σ d o;
        got = λ q. node_grew 0 w.plainly w.only m q;
        within = m.within;
      }

  pub one_there : {k : ℕ} {β : List Symbol} {n : ℕ} {c c₁ : Reader} → Optional A k β → c.no ≡ 0 → c.token.class ≡ k → Many s (t k ∷ β) n c c₁ → One s (r A) n c c₁
  one_there {k} {β} {c = c} w z e m =
      record {
        skip = m.skip;
        verdict = λ σ d o. enters σ d ∙ m.verdict σ d o;
        got = λ q. node_grew 1 w.plainly w.there m q;
        within = m.within;
      }
    where
      enters : (σ : List Due) (d : Depth) → resume s (due d (r A) ∷ σ) c.no c.token ≡ resume s (due_all d (t k ∷ β) ++ σ) c.no c.token
      enters σ d =
          let small : c.token.class < BAD = rw e w.known in
          let told : predict lookahead A c.token.class ≡ some 1 = rw e w.tells in
          let h : verdict_from (due d (r A) ∷ σ) (stream s c.token) ≡ verdict_from (due_all d (t k ∷ β) ++ σ) (stream s c.token) =
          rw (stream_on s c.token small) (verdict_in d A σ 1 (plain (t k ∷ β)) c.token.class c.token.start (stream s (token_at s c.token.end)) told w.there) in
          resume_on s (due d (r A) ∷ σ) c.no c.token z ∙ (h ∙ sym (resume_on s (due_all d (t k ∷ β) ++ σ) c.no c.token z))

  pub one_absent : {k : ℕ} {β : List Symbol} (c : Reader) → Optional A k β → c.no ≡ 0 → c.token.class ≢ k → One s (r A) 1 c (without c)
  unfolding entries with_entries faults gathered noting
  one_absent {k} {β} c w z e =
      record {
        skip = refl;
        verdict = λ σ d o. resume_on s (due d (r A) ∷ σ) c.no c.token z ∙ (skipped_here s c.token d A σ (w.alone c.token.class e) w.empty ∙ sym (resume_on s σ 0 c.token refl));
        got = λ q.
            record {
              before = z;
              tree = node A 0 nil;
              own = [];
              kept_own = 0 ∷ [];
              faults_own = [];
              fits = λ α f h. fits_node w.absent fits_nil h;
              few = omega arith;
              leaves_are = λ f. refl;
              entries_are = λ f. refl;
              faults_are = λ f. faults_node s A 0 nil f (w.plainly.no_faults s 0 nil);
              reads = refl;
              kept = refl;
              noted = refl;
            };
        within = λ h. h;
      }
