-- A table that holds the draft rows of a derivation's trees has the trees' statements laid.
-- Assumes nothing.
use Prim.Native.Nat.{ℕ, suc, ◌+◌, ◌≤◌, ◌<◌}
use native.Mathlib.Omega.{arith}
use mathlib.Core.Path.{◌≡◌, refl}
use mathlib.Core.Bool.{true, false, not}
use mathlib.Core.List.{List, [], ◌∷◌}
use lib.Dec.{eqb}
use lib.ListN.{length}
use borrow.Author.Tests.{not-true}
use Rattle.lexemes.proofs.Lists.{either}
use Rattle.rows.specs.Codes.{is_expression}
use Rattle.rows.specs.Columns as column
use Rattle.rows.specs.Table.{cell_at}
use Rattle.ll1.specs.Trees.{Trees, nil, node, Symbol, nonterminal, Fits, fits_nil, fits_leaf, fits_node}
use Rattle.ll1.proofs.Basics.{both}
use Rattle.grammar.specs.Rules.{<source>}
use Rattle.grammar.specs.Grammar.{rules}
use Rattle.answers.specs.Rows.{Draft, drafts_of}
use Rattle.grammar.proofs.Alternatives.{at_alternative}
use Rattle.laid.specs.Items.{Inner, Items, done}
use Rattle.laid.specs.Statements.{makes_row, inner_of, items_of}
use Rattle.laid.specs.Laid.{Stretch, Stops, Inside, inside_plain, inside_expressed, Laid, laid_done, laid_item, FormSetLaid}
use Rattle.laid.proofs.Held.{Held}
use Rattle.laid.proofs.Expressions.{AllParts, spans_held, parts_held}
use Rattle.laid.proofs.OwnRows.{InnerRows, plain_rows, expressed_rows}
use Rattle.laid.proofs.HeldTrees.{no_source, no_source_under, StatementHeld, statement_held, plain_held, source_size, source_held}

module _ (t : List ℕ) (count : ℕ) (found : ℕ → List ℕ) (value : ℕ → ℕ) where
  -- row e, if it is one of the first `count`, is a statement's that stands in no later row than `parent`
  pub record Edge (parent e : ℕ) : Type 0 where
    pub part : e < count → is_expression (cell_at t e column.CODE) ≡ false
    pub outer : e < count → cell_at t e column.PARENT ≤ parent

  -- the statements of the trees f, which stand in the row `parent`, from the row `at` to before e
  pub record Forest (f : Trees) (parent at e : ℕ) : Type 0 where
    pub laid : (z : Items) (m : ℕ) → Laid t count found parent e z m → Laid t count found parent at (items_of f z) m
    pub edge : Edge parent at

  -- ---- a statement, with those in it and those after it

  -- the rows of what stands in it
  pub inner_laid :
      {at j : ℕ} {x : Inner} {others : List Draft}
      → InnerRows value at x others → Held t found others (suc at) → j ≡ suc at + length others
      → Inside t count found (suc at) x j × AllParts t found at (suc at) j
  inner_laid {at} {j} plain_rows h q = let z : j ≡ suc at = omega arith in (rw z inside_plain, λ m l d. absurd (omega arith))
  inner_laid {at} (expressed_rows e) h q =
      rw q (inside_expressed (spans_held t found value at e (suc at) h), parts_held t found value at e (suc at) h)

  module _ {parent at n A i : ℕ} {c f : Trees} (h : StatementHeld t found value parent at n A i c f) where
    abbrev j : ℕ
    j = suc at + length h.others

    abbrev k : ℕ
    k = h.parts.k

    inside : Inside t count found (suc at) (inner_of A i c) j × AllParts t found at (suc at) j
    inside = inner_laid h.inner h.inner_held refl

    edge_here : Edge parent at
    edge_here = record { part = λ l. rw h.code_is h.part; outer = λ l. omega (arith, h.parent_is) }

    -- what follows in an outer row is apart from what is in this one
    edge_inner : parent < at → Edge parent k → Edge at k
    edge_inner low g = record { part = g.part; outer = λ l. omega (arith, g.outer l) }

    stops_inner : parent < at → Edge parent k → Stops t count at k
    stops_inner low g = record { apart = λ l q. omega (arith, g.outer l) }

    -- its row is there, and the rows of what stands in it end where those in it start
    here : k ≤ count → at < count
    here room = omega (arith, h.parts.k_is)

    stretch : k ≤ count → Edge at j → Stretch t count (suc at) j
    stretch room g = record { up = omega arith; within = λ m l d. (inside.1 m l d).part; ends = g.part; below = λ l. omega (arith, h.parts.k_is) }

    statement_forest :
        {e : ℕ}
        → parent < at → k ≤ count → makes_row A ≡ true
        → (Edge at k → Forest c at j k) → Forest f parent k e
        → Forest (node A i c f) parent at e
    unfolding items_of
    statement_forest low room made inner later =
        let within = inner (edge_inner low later.edge) in
        record {
          laid = λ z m l.
              rw (made, items_of)
              (laid_item {j = j} {k = k} h.row_is h.parent_is (here room) (stretch room within.edge) inside.0
              (within.laid done k laid_done) (stops_inner low later.edge) (later.laid z m l));
          edge = edge_here;
        }

  -- ---- a tree that is no statement

  plain_forest :
      {parent at k e A i : ℕ} {c f : Trees}
      → makes_row A ≡ false → Forest c parent at k → Forest f parent k e → Forest (node A i c f) parent at e
  unfolding items_of
  plain_forest {f = f} made inner later =
      record { laid = λ z m l. rw (made, items_of) (inner.laid (items_of f z) m (later.laid z m l)); edge = inner.edge }

  pub forest :
      {σ : List Symbol} {f : Trees}
      → Fits rules σ f → no_source σ ≡ true
      → (parent at n e : ℕ)
      → parent < at → e ≡ at + length (drafts_of value f parent at n) → e ≤ count
      → Held t found (drafts_of value f parent at n) at → Edge parent e → Forest f parent at e
  unfolding items_of
  forest fits_nil s parent at n e low end room held edge =
      let q : at ≡ e = omega arith in
      record { laid = λ z m l. rw q l; edge = rw q edge }
  forest (fits_leaf r) s parent at n e low end room held edge =
      let q = forest r s parent at n e low end room held edge in
      record { laid = q.laid; edge = q.edge }
  forest (fits_node {A = A} {i = i} {c = c} {f = f} eq r₁ r₂) s parent at n e low end room held edge =
      let no_source_lem = both (not (eqb A <source>)) _ s in
      let none_under = at_alternative _ no_source_under eq in
      either (makes_row A)
      (λ made.
      let h = statement_held t found value parent at n A i c f eq made held in
      let p = h.parts in
      let later = forest r₂ no_source_lem.1 parent p.k p.rules_before e (omega (arith, p.k_is)) (omega (arith, end, p.end)) room p.after edge in
      statement_forest h low (omega (arith, end, p.end)) made
      (λ g. forest r₁ none_under at (j h) n p.k (omega arith) p.k_is (omega (arith, end, p.end)) p.under g)
      later)
      (λ made.
      let p = plain_held t found value parent at n A i c f made (not-true (eqb A <source>) no_source_lem.0) held in
      let later = forest r₂ no_source_lem.1 parent p.k p.rules_before e (omega (arith, p.k_is)) (omega (arith, end, p.end)) room p.after edge in
      plain_forest made (forest r₁ none_under parent at n p.k low p.k_is (omega (arith, end, p.end)) p.under later.edge) later)

-- ---- the tree of a source

pub form_set_laid :
    (t : List ℕ) (found : ℕ → List ℕ) (value : ℕ → ℕ) {tree : Trees}
    → Fits rules (nonterminal <source> ∷ []) tree
    → Held t found (drafts_of value tree 0 0 0) 0
    → FormSetLaid t (length (drafts_of value tree 0 0 0)) found tree
unfolding items_of
form_set_laid t found value (fits_node {i = i} {c = c} e r fits_nil) held =
    let count = length (drafts_of value (node <source> i c nil) 0 0 0) in
    let size : count ≡ suc (length (drafts_of value c 0 1 0)) = source_size value i c in
    let rows = source_held value i c t found held in
    let last : Edge t count found value 0 count = record { part = λ l. absurd (omega arith); outer = λ l. absurd (omega arith) } in
    let no_source_lem = at_alternative _ no_source_under e in
    let under = forest t count found value r no_source_lem 0 1 0 count (omega arith) (omega (arith, size)) (omega arith) rows.1 last in
    record { row = rows.0.row_is; kind = rows.0.code_is; forms = under.laid done count laid_done }
