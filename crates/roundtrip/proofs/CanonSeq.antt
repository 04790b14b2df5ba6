-- What is to hold of a node of the source and of the shape made from it; and of nodes beside one another.
-- Assumes nothing.
use mathlib.Core.Path.{◌≡◌, refl, ap, ap₂, sym, ◌∙◌, subst}
use mathlib.Core.List.{List, [], ◌∷◌, ◌++◌, map-append}
use mathlib.Core.Bool.{true, false}
use Prim.Native.Nat.{ℕ, ◌+◌}
use native.Mathlib.Omega.{arith}
use lib.Dec.{eqb}
use lib.ListN.{length, length-set}
use Rattle.rows.specs.Codes as code
use Rattle.rows.specs.Columns as column
use Rattle.rows.proofs.ColumnLaws.{length_without_places}
use Rattle.ll1.specs.Trees.{Trees, nil, node, Symbol, nonterminal, Depth, Fits, fits_node}
use Rattle.lexemes.proofs.Lists.{either}
use Rattle.grammar.specs.Rules.{<rule>}
use Rattle.grammar.specs.Grammar.{rules}
use Rattle.grammar.specs.Source.{number_at}
use Rattle.answers.specs.Rows.{Draft, rules_in, drafts_of}
use Rattle.grammar.specs.Parts.{when}
use Rattle.answers.specs.Stages.{cell, is}
use Rattle.answers.specs.Text.{Word, opening, around, words_of}
use Rattle.sound.proofs.Lists.{All}
use Rattle.formulas.specs.Shapes.{word, Shape, s_nil, s_leaf, s_node, flat, lexed, spelling, Over, over_nil, over_leaf, over_node}
use Rattle.formulas.specs.Fitted.{Fitted}
use Rattle.formulas.proofs.Fitted.{to_fits, over_fitted}
use Rattle.grammar.proofs.Statements.{states}
use Rattle.roundtrip.proofs.Core.{core, within, Told, told}
use Rattle.roundtrip.proofs.Expressions.{all_parts_lem}
use Rattle.again.specs.Matches.{named, final, Match, Pairs, no_pairs}
use Rattle.roundtrip.proofs.Canon.{under, canon, Found, pairs_append, pairs_length, opening_besides}

-- ---- words

pub spell_node : (A i : ℕ) (x f : Shape) {ws : List Word} → spelling x ≡ ws → spelling (s_node A i x f) ≡ ws ++ spelling f
spell_node A i x f h = map-append word (lexed x) (lexed f) ∙ ap (λ u. u ++ spelling f) h

-- ---- the statements among shapes

abbrev pub core_shape : Shape → Shape
core_shape s_nil = s_nil
core_shape (s_leaf l x) = core_shape x
core_shape (s_node A i c x) = elim (states A) [ true ↦ s_node A i c (core_shape x) | false ↦ core_shape x ]

-- what states something among trees is over what states something in their shape
pub over_core : {t : List ℕ} {T : Trees} {x : Shape} → Over t T x → Over t (core T) (core_shape x)
over_core over_nil = over_nil
over_core (over_leaf r o) = over_core o
over_core (over_node {A = A} o₁ o₂) =
    either (states A) (λ y. rw (y, core, core_shape) (over_node o₁ (over_core o₂))) (λ no. rw (no, core, core_shape) (over_core o₂))

pub silent_core : {t : List ℕ} {T : Trees} {x : Shape} → Over t T x → core_shape x ≡ s_nil → core T ≡ nil
silent_core {t} {T} {x} o h = by (core T) (subst (λ y. Over t (core T) y) h (over_core o))
  where
    by : (K : Trees) → Over t K s_nil → K ≡ nil
    by K over_nil = refl

module _ (t : List ℕ) (look look' : ℕ → List ℕ) (source : ℕ → ℕ) where
  abbrev pub N : ℕ → ℕ
  N = number_at t

  -- ---- one phrase, again

  final_length : (d : Draft) → length d.row ≡ column.ROW → length (final t d) ≡ column.ROW
  final_length d h = either (is code.RULE_REF d) (λ e. rw e (length-set d.row column.A (named t d) ∙ h)) (λ e. rw e h)

  pub open_again : {d' d : Draft} → Match t look d' d → Found t look' d' → opening (look' (cell column.PLACE d')) ≡ opening (look (cell column.PLACE d))
  open_again {d'} {d} m f =
      let r = final t d' in
      let q = look (cell column.PLACE d) in
      let whole = final_length d' m.whole in
      let whole' = sym (length_without_places q) ∙ sym (ap length m.same) ∙ length_without_places r ∙ whole in
      ap opening f ∙ opening_besides r whole ∙ ap opening m.same ∙ sym (opening_besides q whole')

  -- ---- trees T of the text beside one another, and trees f of the source

  pub record SeqOver (T f : Trees) (parent at n : ℕ) : Type 0 where
    pub rows : Pairs (Match t look) (drafts_of N T parent at n) (drafts_of source f parent at n)
    pub count : rules_in T ≡ rules_in f
    pub again : All (Found t look') (drafts_of N T parent at n) → words_of look' T ≡ words_of look f

  -- a node of the rule A and its alternative i: over T, and over c
  pub record OverOk (A i : ℕ) (c T : Trees) (parent at n : ℕ) : Type 0 where
    pub rows : Pairs (Match t look) (within N look' A i T parent at n) (within source look A i c parent at n)
    pub count : rules_in (node A i T nil) ≡ rules_in (node A i c nil)
    pub again : All (Found t look') (within N look' A i T parent at n) → around look' A i T (words_of look' T) ≡ around look A i c (words_of look c)

  abbrev pub made : ℕ → ℕ → Trees → Shape
  made A i c = under look A i c (canon look c)

  -- a node of the source
  pub record Ok (d : Depth) (A i : ℕ) (c : Trees) (parent at n : ℕ) : Type 0 where
    pub fits : {σ : List Symbol} {F : Trees} → Fitted d σ F → Fitted d (nonterminal A ∷ σ) (node A i (flat (made A i c)) F)
    pub spells : spelling (made A i c) ≡ around look A i c (words_of look c)
    pub over : (T : Trees) → Over t T (made A i c) → OverOk A i c T parent at n

  pub seq_none : (parent at n : ℕ) → SeqOver nil nil parent at n
  seq_none parent at n = record { rows = no_pairs; count = refl; again = λ h. refl }

  pub seq_node :
      {A i : ℕ} {c T f U : Trees} {parent at n : ℕ}
      → OverOk A i c T parent at n
      → SeqOver U f parent (at + length (within source look A i c parent at n)) (n + rules_in (node A i c nil))
      → SeqOver (node A i T U) (node A i c f) parent at n
  seq_node {A} {i} {c} {T} {f} {U} {parent} {at} {n} o s =
      let W = within source look A i c parent at n in
      let W' = within N look' A i T parent at n in
      let e : drafts_of N U parent (at + length W') (n + rules_in (node A i T nil)) ≡ drafts_of N U parent (at + length W) (n + rules_in (node A i c nil)) =
      ap₂ (λ x y. drafts_of N U parent (at + x) (n + y)) (pairs_length o.rows) o.count in
      let cs : (x y : ℕ) → rules_in (node A i T nil) ≡ rules_in (node A i c nil) → rules_in U ≡ rules_in f → when (eqb A <rule>) 1 + rules_in T + rules_in U ≡ when (eqb A <rule>) 1 + rules_in c + rules_in f = λ x y p q. omega arith in
      record {
        rows = pairs_append o.rows (subst (λ ds. Pairs (Match t look) ds (drafts_of source f parent (at + length W) (n + rules_in (node A i c nil)))) (sym e) s.rows);
        count = cs 0 0 o.count s.count;
        again = λ h.
            let q = all_parts_lem W' _ h in
            ap₂ (λ a b. a ++ b) (o.again q.0) (s.again (subst (λ ds. All (Found t look') ds) e q.1));
      }

  -- only what states something counts
  pub inside : {T c : Trees} {parent at n : ℕ} → Told N look' T → Told source look c → SeqOver (core T) (core c) parent at n → SeqOver T c parent at n
  inside {T} {c} {parent} {at} {n} u v s =
      record {
        rows = subst (λ ds. Pairs (Match t look) ds (drafts_of source c parent at n)) (sym (u.rows parent at n)) (subst (λ ds. Pairs (Match t look) (drafts_of N (core T) parent at n) ds) (sym (v.rows parent at n)) s.rows);
        count = u.rules_in_lem ∙ s.count ∙ sym v.rules_in_lem;
        again = λ h. u.words ∙ s.again (subst (λ ds. All (Found t look') ds) (u.rows parent at n) h) ∙ sym v.words;
      }

  -- a tree over a shape that fits
  pub told_over : (d : Depth) (A i : ℕ) (x : Shape) {T : Trees} → Fitted d (nonterminal A ∷ []) (node A i (flat x) nil) → Over t T x → Told N look' T
  told_over d A i x {T} h o = by (to_fits (over_fitted {x = s_node A i x s_nil} (over_node o over_nil) h))
    where
      by : {B : ℕ} → Fits rules (nonterminal B ∷ []) (node A i T nil) → Told N look' T
      by (fits_node e r₁ r₂) = told N look' r₁
