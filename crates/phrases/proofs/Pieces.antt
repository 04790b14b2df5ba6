-- What a piece of a phrase reads: a symbol, and symbols one after another.
-- Assumes nothing.
use Prim.Native.Nat.{ℕ, ◌+◌, ◌≤◌}
use mathlib.Core.Path.{◌≡◌, refl, ◌∙◌}
use mathlib.Core.Bool.{false}
use mathlib.Core.List.{List, [], ◌∷◌, ◌++◌, append_assoc}
use mathlib.Core.Logic.{◌≢◌}
use native.Mathlib.Omega.{arith}
use lib.ListN.{length, length-append}
use Rattle.ll1.specs.Trees.{Token, Trees, nil, leaves, Symbol, Fits, fits_nil, Depth}
use Rattle.ll1.specs.Machine.{Due, due, due_all}
use Rattle.grammar.specs.Grammar.{rules}
use Rattle.grammar.specs.Derivation.{too_deep}
use Rattle.grammar.specs.Ranges.{gathered}
use Rattle.phrases.specs.Stream.{stream, resume, Within}
use Rattle.elements.specs.Marks.{Fault, faults, noting}
use Rattle.elements.specs.Entries.{entries}
use Rattle.phrases.specs.Phrase.{Reader, with_entries}
use Rattle.elements.proofs.MarkLaws.{noting_append}
use Rattle.phrases.proofs.Keeping.{keep_append}
use Rattle.phrases.proofs.Resume.{resume_off}

module _ (s : List ℕ) where
  -- the tree of the symbol x, beside any others: its leaves, what it keeps (at most w entries), its faults
  pub record Grew (x : Symbol) (w : ℕ) (c c' : Reader) : Type 0 where
    pub before : c.no ≡ 0
    pub tree : Trees → Trees
    pub own : List Token
    pub kept_own : List ℕ
    pub faults_own : List Fault
    pub fits : (α : List Symbol) (f : Trees) → Fits rules α f → Fits rules (x ∷ α) (tree f)
    pub leaves_are : (f : Trees) → leaves (tree f) ≡ own ++ leaves f
    pub entries_are : (f : Trees) → entries (tree f) ≡ kept_own ++ entries f
    pub faults_are : (f : Trees) → faults s (tree f) ≡ faults_own ++ faults s f
    pub few : length kept_own ≤ w
    pub reads : own ++ stream s c'.token ≡ stream s c.token
    pub kept : c'.kept ≡ with_entries c.kept kept_own
    pub noted : c'.noted ≡ noting c.noted faults_own

  -- from c to c' the symbol x is read, and at most w entries are kept
  pub record One (x : Symbol) (w : ℕ) (c c' : Reader) : Type 0 where
    pub skip : c'.skip ≡ 0
    pub verdict : (σ : List Due) (d : Depth) → too_deep d ≡ false → resume s (due d x ∷ σ) c.no c.token ≡ resume s σ c'.no c'.token
    pub got : c'.no ≡ 0 → Grew x w c c'
    pub within : Within s c.token → Within s c'.token

  -- the trees of the symbols α
  pub record Grown (α : List Symbol) (w : ℕ) (c c' : Reader) : Type 0 where
    pub before : c.no ≡ 0
    pub trees : Trees
    pub fits : Fits rules α trees
    pub few : length (entries trees) ≤ w
    pub reads : leaves trees ++ stream s c'.token ≡ stream s c.token
    pub kept : c'.kept ≡ with_entries c.kept (entries trees)
    pub noted : c'.noted ≡ noting c.noted (faults s trees)

  -- from c to c' the symbols α are read
  pub record Many (α : List Symbol) (w : ℕ) (c c' : Reader) : Type 0 where
    pub skip : c'.skip ≡ 0
    pub verdict : (σ : List Due) (d : Depth) → too_deep d ≡ false → resume s (due_all d α ++ σ) c.no c.token ≡ resume s σ c'.no c'.token
    pub got : c'.no ≡ 0 → Grown α w c c'
    pub within : Within s c.token → Within s c'.token

  -- ---- one after another

  pub many_none : (c : Reader) → c.skip ≡ 0 → Many [] 0 c c
  unfolding entries with_entries faults gathered noting
  many_none c z =
      record {
        skip = z;
        verdict = λ σ d o. refl;
        got = λ q. record { before = q; trees = nil; fits = fits_nil; few = omega arith; reads = refl; kept = refl; noted = refl };
        within = λ h. h;
      }

  module _ {x : Symbol} {α : List Symbol} {v w : ℕ} {c c₁ c₂ : Reader} where
    grown : Grew x v c c₁ → Grown α w c₁ c₂ → Grown (x ∷ α) (v + w) c c₂
    grown g h =
        let f = h.trees in
        let a = g.few in
        let b = h.few in
        record {
          before = g.before;
          trees = g.tree f;
          fits = g.fits α f h.fits;
          few = rw (g.entries_are f, length-append g.kept_own (entries f)) (omega arith);
          reads = rw (g.leaves_are f, append_assoc g.own (leaves f) (stream s c₂.token), h.reads) g.reads;
          kept = h.kept ∙ rw (g.kept, g.entries_are f, keep_append c.kept g.kept_own (entries f));
          noted = h.noted ∙ rw (g.noted, g.faults_are f, noting_append c.noted g.faults_own (faults s f));
        }

    pub one_more : One x v c c₁ → Many α w c₁ c₂ → Many (x ∷ α) (v + w) c c₂
    one_more o m =
        record {
          skip = m.skip;
          verdict = λ σ d z. o.verdict (due_all d α ++ σ) d z ∙ m.verdict σ d z;
          got = λ q. let h = m.got q in grown (o.got h.before) h;
          within = λ h. m.within (o.within h);
        }

  -- a refusal is handed on
  pub one_off : (x : Symbol) (w : ℕ) (c : Reader) → c.skip ≡ 0 → c.no ≢ 0 → One x w c c
  one_off x w c z h =
      record {
        skip = z;
        verdict = λ σ d o. resume_off s (due d x ∷ σ) σ c.no c.token h;
        got = λ q. absurd (h q);
        within = λ w. w;
      }
