-- Each row of a derivation stands at the place of a leaf of its own, and so the finished rows are found by their places.
-- Assumes nothing.
use mathlib.Core.Path.{◌≡◌, refl, ap, sym, ◌∙◌}
use mathlib.Core.List.{List, [], ◌∷◌, ◌++◌, map}
use mathlib.Core.Bool.{true}
use Prim.Native.Nat.{ℕ, suc, ◌≤◌, ◌<◌}
use native.Mathlib.Omega.{arith}
use lib.ListN.{length, get_or, length-map}
use borrow.Author.Tests.{lt-ltb}
use Rattle.rows.specs.Columns as column
use Rattle.ll1.specs.Trees.{Trees, node, leaves, Symbol, Fits, fits_node}
use Rattle.grammar.specs.Rules.{<rule>, <item>}
use Rattle.grammar.specs.Grammar.{rules}
use Rattle.grammar.specs.Derivation.{Derives}
use Rattle.grammar.specs.Source.{source_tokens, number_at}
use Rattle.grammar.specs.Parts.{child, place_at}
use Rattle.answers.specs.Expression.{expression}
use Rattle.answers.specs.Rows.{Draft, own_rows}
use Rattle.answers.specs.Stages.{cell, finished}
use Rattle.answers.specs.Answer.{drafts}
use Rattle.answers.specs.Text.{row_first_at}
use Rattle.grammar.specs.Places.{places_of, Distinct, Ascending, total, times, hit}
use Rattle.answers.specs.RowPlaces.{row_places, expression_places, own_places, tree_places}
use Rattle.answers.specs.Reached.{Reached, FoundFrom}
use Rattle.grammar.proofs.Totals.{load_total, distinct_times, ascending_times}
use Rattle.grammar.proofs.SourceTokens.{tokens_ascend}
use Rattle.answers.proofs.StatementPlaces.{is_statement, own_starts, own_places_lem, tree_places_lem}
use Rattle.answers.proofs.RowWeight.{rows_light}
use Rattle.answers.proofs.FoundRows.{map_map, map_at, map_part, finished_found, found_part, found_first, found_rest}
use Rattle.answers.proofs.Walks.{Among, own_among, reached_fits}

-- the finished rows of a source with its derivation
abbrev pub rows : List ℕ → Trees → List (List ℕ)
rows s tree = finished s (drafts s tree)

module _ (s : List ℕ) (tree : Trees) (derives : Derives (source_tokens s) tree) where
  -- ---- places

  -- the places of the rows, in order
  pub draft_places : row_places (drafts s tree) ≡ tree_places tree
  unfolding drafts
  draft_places = tree_places_lem (number_at s) derives.fits 0 0 0

  -- whatever places weigh, the rows weigh no more than the leaves
  pub rows_weigh_less : (w : ℕ → ℕ) → total w (row_places (drafts s tree)) ≤ total w (places_of (leaves tree))
  rows_weigh_less w = rw draft_places (omega (arith, rows_light w derives.fits, load_total w tree))

  -- each row's place is a leaf's, and each row's that of another: no place is more often a row's than a leaf's
  pub places_of_leaves : (p : ℕ) → times p (row_places (drafts s tree)) ≤ times p (places_of (leaves tree))
  places_of_leaves p = rows_weigh_less (hit p)

  -- the places of the leaves ascend
  pub leaves_ascend : Ascending 0 (places_of (leaves tree))
  leaves_ascend = rw derives.reads (tokens_ascend s)

  -- no two rows have the same place
  pub places_distinct : Distinct (row_places (drafts s tree))
  places_distinct = distinct_times (row_places (drafts s tree)) (λ p. omega (arith, places_of_leaves p, ascending_times p leaves_ascend))

  -- ---- rows by their places

  -- the finished rows are found by their places
  pub rows_by_place : map (λ d. row_first_at (rows s tree) (cell column.PLACE d)) (drafts s tree) ≡ rows s tree
  rows_by_place = map_map (row_first_at (rows s tree)) (cell column.PLACE) (drafts s tree) ∙ finished_found s (drafts s tree) places_distinct

  -- the i-th
  pub row_by_place :
      (i : ℕ) (d : Draft)
      → i < length (drafts s tree) → row_first_at (rows s tree) (cell column.PLACE (get_or (drafts s tree) i d)) ≡ get_or (rows s tree) i []
  row_by_place i d h =
      let f : Draft → List ℕ = λ d. row_first_at (rows s tree) (cell column.PLACE d) in
      sym (map_at f (drafts s tree) i d [] h) ∙ ap (λ rs. get_or rs i []) rows_by_place

  -- a run of them
  pub found_among : {at : ℕ} (part : List Draft) → Among (drafts s tree) part at → FoundFrom (rows s tree) at (row_places part)
  found_among part m =
      let f : Draft → List ℕ = λ d. row_first_at (rows s tree) (cell column.PLACE d) in
      let count = length-map part (cell column.PLACE) in
      found_part (row_places part)
      (sym (map_map (row_first_at (rows s tree)) (cell column.PLACE) part) ∙ map_part f m.before part m.after
      ∙ rw (← m.are, rows_by_place, m.number, count))

  -- one after others
  pub row_after :
      (before after : List Draft) (d : Draft)
      → drafts s tree ≡ before ++ d ∷ after → row_first_at (rows s tree) (cell column.PLACE d) ≡ get_or (rows s tree) (length before) []
  row_after before after d e = found_first (found_among (d ∷ []) (record { before = before; after = after; are = e; number = refl }))

  -- ---- along a walk down the tree

  module _ {A i : ℕ} {c f : Trees} {parent at n : ℕ} (r : Reached (number_at s) tree (node A i c f) parent at n) where
    -- the own rows of a node
    pub own_found : FoundFrom (rows s tree) at (own_places A i c)
    unfolding drafts
    own_found = by (reached_fits (number_at s) derives.fits r).1
      where
        by : {σ : List Symbol} → Fits rules σ (node A i c f) → FoundFrom (rows s tree) at (own_places A i c)
        by (fits_node {a = a} e r₁ r₂) =
            let own = found_among (own_rows (number_at s) parent at n A i c) (own_among (number_at s) r) in
            rw (own_places_lem (number_at s) A i a c parent at n e) at own

    -- a statement's row, at its first word
    pub statement_row : is_statement A ≡ true → row_first_at (rows s tree) (place_at 0 c) ≡ get_or (rows s tree) at []
    statement_row h = found_first (rw (own_starts A i c h).1 at own_found)

  -- a condition's expression
  pub condition_found :
      {i : ℕ} {c f : Trees} {parent at n : ℕ}
      → Reached (number_at s) tree (node <item> i c f) parent at n → 6 < i
      → FoundFrom (rows s tree) (suc at) (expression_places (expression (child 1 c)))
  unfolding own_places
  condition_found {i} r h = found_rest (rw (lt-ltb 6 i h) at (own_found r))

  -- a rule's expression
  pub rule_found_lem :
      {i : ℕ} {c f : Trees} {parent at n : ℕ}
      → Reached (number_at s) tree (node <rule> i c f) parent at n
      → FoundFrom (rows s tree) (suc at) (expression_places (expression (child 3 c)))
  unfolding own_places
  rule_found_lem r = found_rest (own_found r)
