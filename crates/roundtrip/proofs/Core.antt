-- The statements among trees: what is neither a statement nor a list of statements has no rows and no words of its own.
-- Assumes nothing.
use mathlib.Core.Path.{◌≡◌, refl, ap, ◌∙◌}
use mathlib.Core.List.{List, [], ◌++◌}
use mathlib.Core.Option.{some}
use mathlib.Core.Bool.{true, false, not}
use Prim.Native.Nat.{ℕ, ◌+◌}
use native.Mathlib.Nat.{add-zero}
use native.Mathlib.Omega.{arith}
use lib.Dec.{eqb}
use lib.ListN.{length}
use borrow.Author.Tests.{not-true}
use Rattle.ll1.specs.Trees.{Trees, nil, leaf, node, Symbol, Alternative, alternative_of, Fits, fits_nil, fits_leaf, fits_node}
use Rattle.ll1.proofs.Basics.{both}
use Rattle.lexemes.proofs.Lists.{either}
use Rattle.grammar.specs.Rules.{<source>, <form>, <rule>, <item>, <option>}
use Rattle.grammar.specs.Grammar.{rules}
use Rattle.answers.specs.Rows.{Draft, rules_in, own_rows, parent_in, drafts_of}
use Rattle.grammar.specs.Parts.{when}
use Rattle.answers.specs.Rows as Rows
use Rattle.answers.specs.Text as Text
use Rattle.answers.specs.Text.{Word, around, words_of}
use Rattle.grammar.proofs.Statements.{statements, states, apart, free, no_statements}

-- the nodes that state something
abbrev pub core : Trees → Trees
core nil = nil
core (leaf k f) = core f
core (node A i c f) = elim (states A) [ true ↦ node A i c (core f) | false ↦ core f ]

both_empty : (ds es : List Draft) → ds ≡ [] → es ≡ [] → ds ++ es ≡ []
both_empty ds es p q = rw (p, q)

module _ (value : ℕ → ℕ) (look : ℕ → List ℕ) where
  -- trees that state nothing
  pub record Quiet (f : Trees) : Type 0 where
    pub rows : (parent at n : ℕ) → drafts_of value f parent at n ≡ []
    pub words : words_of look f ≡ []
    pub rules_in_lem : rules_in f ≡ 0

  -- a node's own rows and those under it
  abbrev pub within : ℕ → ℕ → Trees → ℕ → ℕ → ℕ → List Draft
  within A i c parent at n = own_rows value parent at n A i c ++ drafts_of value c (parent_in value parent at (own_rows value parent at n A i c)) (at + length (own_rows value parent at n A i c)) n

  module _ (A i : ℕ) (c : Trees) (h : states A ≡ false) where
    pub none_own : (parent at n : ℕ) → own_rows value parent at n A i c ≡ []
    none_own parent at n = rw (apart A <item> h refl, apart A <option> h refl, apart A <rule> h refl, apart A <form> h refl, apart A <source> h refl, Rows.otherwise)

    none_around : (ws : List Word) → around look A i c ws ≡ ws
    none_around ws = rw (apart A <source> h refl, apart A <form> h refl, apart A <rule> h refl, apart A <item> h refl, apart A <option> h refl, Text.otherwise)

    none_within : Quiet c → (parent at n : ℕ) → within A i c parent at n ≡ []
    none_within q parent at n = both_empty (own_rows value parent at n A i c) _ (none_own parent at n) (q.rows _ _ n)

    none_rules : Quiet c → rules_in (node A i c nil) ≡ 0
    none_rules q = rw (apart A <rule> h refl, q.rules_in_lem)

    -- a node that states nothing adds nothing to the trees beside it
    skip_rows : Quiet c → (f : Trees) (parent at n : ℕ) → drafts_of value (node A i c f) parent at n ≡ drafts_of value f parent at n
    skip_rows q f parent at n = skip (within A i c parent at n) (n + rules_in (node A i c nil)) (none_within q parent at n) (rw (none_rules q) (add-zero n))
      where
        skip : (ds : List Draft) (m : ℕ) → ds ≡ [] → m ≡ n → ds ++ drafts_of value f parent (at + length ds) m ≡ drafts_of value f parent at n
        skip ds m e k = rw (e, k, add-zero at)

    skip_words : Quiet c → (f : Trees) → words_of look (node A i c f) ≡ words_of look f
    skip_words q f = ap (λ ws. ws ++ words_of look f) (none_around (words_of look c) ∙ q.words)

    skip_rules : Quiet c → (f : Trees) → rules_in (node A i c f) ≡ rules_in f
    skip_rules q f = rw (apart A <rule> h refl, q.rules_in_lem) (omega arith)

  silent_quiet : {σ : List Symbol} {f : Trees} → Fits rules σ f → free statements σ ≡ true → Quiet f
  silent_quiet fits_nil h = record { rows = λ parent at n. refl; words = refl; rules_in_lem = refl }
  silent_quiet (fits_leaf r) h = let q = silent_quiet r h in record { rows = q.rows; words = q.words; rules_in_lem = q.rules_in_lem }
  silent_quiet (fits_node {A = A} {i = i} {a = a} {c = c} {f = f} e r₁ r₂) h =
      let w = both (not (states A)) _ h in
      let no = not-true (states A) w.0 in
      let q = silent_quiet r₁ (no_statements A i a e (rw no)) in
      let k = silent_quiet r₂ w.1 in
      record {
        rows = λ parent at n. skip_rows A i c no q f parent at n ∙ k.rows parent at n;
        words = skip_words A i c no q f ∙ k.words;
        rules_in_lem = skip_rules A i c no q f ∙ k.rules_in_lem;
      }

  -- under a node that states nothing
  pub quiet_under : (A i : ℕ) {a : Alternative} {c : Trees} → alternative_of rules A i ≡ some a → states A ≡ false → Fits rules a.symbols c → Quiet c
  quiet_under A i {a} e h r = silent_quiet r (no_statements A i a e (rw h))

  -- ---- of a derivation only what states something has rows and words

  pub record Told (f : Trees) : Type 0 where
    pub rows : (parent at n : ℕ) → drafts_of value f parent at n ≡ drafts_of value (core f) parent at n
    pub words : words_of look f ≡ words_of look (core f)
    pub rules_in_lem : rules_in f ≡ rules_in (core f)

  pub told : {σ : List Symbol} {f : Trees} → Fits rules σ f → Told f
  told fits_nil = record { rows = λ parent at n. refl; words = refl; rules_in_lem = refl }
  told (fits_leaf r) = let q = told r in record { rows = q.rows; words = q.words; rules_in_lem = q.rules_in_lem }
  told (fits_node {A = A} {i = i} {a = a} {c = c} {f = f} e r₁ r₂) =
      let k = told r₂ in
      either (states A)
      (λ y. record {
        rows = λ parent at n. rw (y, core) (ap (λ ds. within A i c parent at n ++ ds) (k.rows parent (at + length (within A i c parent at n)) (n + rules_in (node A i c nil))));
        words = rw (y, core) (ap (λ ws. around look A i c (words_of look c) ++ ws) k.words);
        rules_in_lem = rw (y, core) (ap (λ m. when (eqb A <rule>) 1 + rules_in c + m) k.rules_in_lem);
      })
      (λ no.
      let q = silent_quiet r₁ (no_statements A i a e (rw no)) in
      record {
        rows = λ parent at n. rw (no, core) (skip_rows A i c no q f parent at n ∙ k.rows parent at n);
        words = rw (no, core) (skip_words A i c no q f ∙ k.words);
        rules_in_lem = rw (no, core) (skip_rules A i c no q f ∙ k.rules_in_lem);
      })
