-- What holds of each row: of the drafts of a derivation, of settled drafts, and of drafts in which a stage finds no fault.
-- Assumes nothing.
use mathlib.Core.Path.{◌≡◌}
use mathlib.Core.List.{List, [], ◌∷◌, map}
use mathlib.Core.Bool.{true, cond}
use Prim.Native.Nat.{ℕ}
use lib.ListN.{get_or, drop}
use Rattle.lexemes.proofs.Lists.{either}
use Rattle.numbers.specs.Numbers.{numbered}
use Rattle.rows.specs.Columns as column
use Rattle.ll1.specs.Trees.{Trees, Symbol}
use Rattle.ll1.proofs.Basics.{append_empty}
use Rattle.grammar.specs.Source.{number_at}
use Rattle.answers.specs.Rows.{Draft, own_rows, drafts_of}
use Rattle.answers.specs.Stages.{asks, faults_after, refers, finds, own_of_first, own_numbers, with_cell, with_numbers, numbered_rows, with_references, settled}
use Rattle.sound.proofs.Lists.{All, none, more, all_append}
use Rattle.sound.proofs.Kept.{Kept, kept_nil, kept_leaf, kept_node, Node}

module _ {P : Draft → Type 0} (s : List ℕ) where
  -- what holds of every node's own rows holds of the drafts of trees
  pub all_drafts :
      ((A i : ℕ) (c : Trees) → Node s A i c → (parent at n : ℕ) → All P (own_rows (number_at s) parent at n A i c))
      → {σ : List Symbol} {f : Trees} → Kept s σ f → (parent at n : ℕ) → All P (drafts_of (number_at s) f parent at n)
  all_drafts own kept_nil parent at n = none
  all_drafts own (kept_leaf p k) parent at n = all_drafts own k parent at n
  all_drafts own (kept_node {A = A} {i = i} {a = a} {c = c} e r k₁ k₂) parent at n =
      let this : Node s A i c = record { alternative = a; is = e; none_out = r; under = k₁ } in
      all_append (all_append (own A i c this parent at n) (all_drafts own k₁ _ _ n)) (all_drafts own k₂ parent _ _)

  -- ---- settling leaves true what holds of a draft whatever its own number is, and of a reference whatever it finds

  numbers_keep : ((d : Draft) (v : ℕ) → P d → P (with_cell column.OWN v d)) → (ns : List ℕ) {ds : List Draft} → All P ds → All P (with_numbers ns ds)
  unfolding with_numbers
  numbers_keep own ns none = none
  numbers_keep own ns (more {x = d} h p) =
      either (asks d)
      (λ e. rw e (more (own d (get_or ns 0 0) h) (numbers_keep own (drop 1 ns) p)))
      (λ e. rw e (more h (numbers_keep own ns p)))

  module _ (found : (d : Draft) (v : ℕ) → refers s d ≡ true → P d → P (with_cell column.A v d)) where
    found_keep : (look : Draft → ℕ) {ds : List Draft} → All P ds → All P (map (λ d. cond (refers s d) (with_cell column.A (look d) d) d) ds)
    found_keep look none = none
    found_keep look (more {x = d} h p) =
        either (refers s d) (λ e. rw e (more (found d (look d) e h) (found_keep look p))) (λ e. rw e (more h (found_keep look p)))

    pub settling_keeps : ((d : Draft) (v : ℕ) → P d → P (with_cell column.OWN v d)) → {ds : List Draft} → All P ds → All P (settled s ds)
    unfolding settled numbered_rows with_references
    settling_keeps own {ds} p =
        let rows = numbered_rows ds in
        found_keep (λ d. own_of_first s (finds s rows d) rows) (numbers_keep own (numbered (own_numbers ds)) p)

-- ---- where a stage finds no fault, what follows of a draft without one holds of each

pub all_clean :
    {P Q : Draft → Type 0} (faults : List Draft → Draft → List ℕ)
    → ((before : List Draft) (d : Draft) → faults before d ≡ [] → P d → Q d)
    → {ds : List Draft} (before : List Draft) → All P ds → faults_after faults before ds ≡ [] → All Q ds
unfolding faults_after
all_clean faults follows before none e = none
all_clean faults follows before (more {x = d} h p) e =
    let t = append_empty (faults before d) _ e in
    more (follows before d t.0 h) (all_clean faults follows (d ∷ before) p t.1)
