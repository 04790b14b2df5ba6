-- What trees mean that stand beside one another, and under a tree.
-- Assumes nothing.
use Prim.Native.Nat.{ℕ, ◌+◌, ◌<◌}
use mathlib.Core.Path.{◌≡◌, refl, sym, ap, ◌∙◌}
use mathlib.Core.Bool.{true, false}
use mathlib.Core.List.{List, [], ◌∷◌, ◌++◌, append-nil}
use native.Mathlib.Omega.{arith}
use native.Mathlib.Nat.{add-zero}
use lib.Dec.{eqb}
use lib.ListN.{length}
use Rattle.ll1.specs.Trees.{Trees, nil, node, Symbol, Fits}
use Rattle.grammar.specs.Rules.{<rule>}
use Rattle.grammar.specs.Grammar.{rules}
use Rattle.grammar.specs.Source.{number_at}
use Rattle.answers.specs.Rows.{Draft, rules_in, parent_in}
use Rattle.walk.specs.Meanings.{◌⧺◌, Silent, rows_in, rows_own, Under, Opening}
use Rattle.walk.proofs.TreeLaws.{beside_assoc, beside_nil, rules_beside, rows_within, rows_nil, rows_node, rows_beside, quiet, quiet_rows, quiet_rules}
use Rattle.walk.proofs.Walks.{Joins}

module _ (s : List ℕ) where
  -- ---- statements beside one another

  pub silent_under :
      (parent : ℕ) {α : List Symbol} {at n : ℕ} {f : Trees} {ds : List Draft} {k : ℕ}
      → quiet α ≡ true → Fits rules α f → Silent at n f ds k → Under s parent at n f ds k
  silent_under parent {at = at} {n = n} q h m = record { rows = m.no_rows ∙ sym (quiet_rows s parent at n h q); rules = m.no_rules ∙ sym (quiet_rules h q) }

  pub under_joins : {α β : List Symbol} {parent at n : ℕ} → Joins α β (Under s parent) (Under s parent) (Under s parent) at n
  under_joins {parent = parent} {at = at} {n = n} f g ds es k l h₁ h₂ x y =
      record {
        rows = rw (y.rows, x.rows, x.rules) (sym (rows_beside s f g parent at n));
        rules = rw (rules_beside f g, x.rules, y.rules);
      }

  -- ---- what a tree of rule A holds

  -- the rows of a tree over the trees c
  pub record Content (A i parent at n : ℕ) (c : Trees) (ds : List Draft) (k : ℕ) : Type 0 where
    pub rows : ds ≡ rows_within s parent at n A i c
    pub rules : k ≡ rules_in (node A i c nil)

  pub content_under :
      {A i parent at n : ℕ} {c : Trees} {ds : List Draft} {k : ℕ}
      → Content A i parent at n c ds k → Under s parent at n (node A i c nil) ds k
  content_under {A} {i} {parent} {at} {n} {c} m = record { rows = m.rows ∙ rw (rows_node, rows_nil, append-nil (rows_within s parent at n A i c)); rules = m.rules }

  -- a rule without own rows
  pub under_content :
      {A i parent at n : ℕ} {c : Trees} {ds : List Draft} {k : ℕ}
      → rows_own s parent at n A i c ≡ [] → eqb A <rule> ≡ false → Under s parent at n c ds k → Content A i parent at n c ds k
  under_content e b m = record { rows = rw (e, add-zero) m.rows; rules = rw b (m.rules ∙ omega arith) }

  -- own rows, and what follows makes no more of them
  pub opening_joins : {A i : ℕ} {α β : List Symbol} {parent at n : ℕ} → Joins α β (Opening s A i parent) Silent (Opening s A i parent) at n
  opening_joins {A} {i} {parent = parent} {at = at} {n = n} f g ds es k l h₁ h₂ x y =
      record {
        rows = λ h. rw (y.no_rows, append-nil ds, beside_assoc f g h) (x.rows (g ⧺ h));
        some = rw (y.no_rows, append-nil ds) x.some;
        rules = rw (y.no_rules, add-zero) x.rules;
      }

  parent_own : (parent at : ℕ) (ds : List Draft) → 0 < length ds → parent_in (number_at s) parent at ds ≡ at
  parent_own parent at [] h = absurd (omega arith)
  parent_own parent at (d ∷ ds) h = refl

  -- own rows alone
  pub opening_content :
      {A i parent at n : ℕ} {α : List Symbol} {f : Trees} {ds : List Draft} {k : ℕ}
      → quiet α ≡ true → Fits rules α f → Opening s A i parent at n f ds k → Content A i parent at n f ds k
  opening_content {A} {i} {parent} {at} {n} {f = f} {ds = ds} q h m =
      let own : ds ≡ rows_own s parent at n A i f = rw (beside_nil f) at (m.rows nil) in
      record {
        rows = rw (← own, quiet_rows s (parent_in (number_at s) parent at ds) (at + length ds) n h q) (sym (append-nil ds));
        rules = m.rules ∙ rw (quiet_rules h q) (omega arith);
      }

  -- own rows, and under them those of the trees that follow
  pub content_joins :
      {A i : ℕ} {α β : List Symbol} {parent at n : ℕ}
      → quiet α ≡ true → eqb A <rule> ≡ false → Joins α β (Opening s A i parent) (Under s at) (Content A i parent) at n
  content_joins {A} {i} {parent = parent} {at = at} {n = n} q b f g ds es k l h₁ h₂ x y =
      let own = x.rows g in
      let none : k ≡ 0 = x.rules ∙ rw b in
      let rows : es ≡ rows_in s g at (at + length ds) n = rw (none, add-zero) at y.rows in
      record {
        rows = rw (← own, parent_own parent at ds x.some, rows_beside s f g at (at + length ds) n, quiet_rows s at (at + length ds) n h₁ q, quiet_rules h₁ q, add-zero, add-zero) (ap (λ (l : List Draft). ds ++ l) rows);
        rules = rw (b, rules_beside f g, quiet_rules h₁ q, none, y.rules) (omega arith);
      }
