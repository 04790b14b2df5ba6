-- What the trees of expressions spell, put together from their parts.
-- Assumes nothing.
use Prim.Native.Nat.{ℕ, ◌≤◌, ◌<◌}
use mathlib.Core.Path.{◌≡◌, refl, sym, ap, ◌∙◌}
use mathlib.Core.Bool.{false}
use mathlib.Core.List.{List, [], ◌∷◌, ◌++◌, append_assoc, append-nil}
use native.Mathlib.Omega.{arith}
use lib.Dec.{eqb}
use lib.ListN.{length, length-append}
use Rattle.lexemes.specs.Classes as class
use Rattle.lexemes.specs.Classes.{open_paren}
use Rattle.ll1.specs.Trees.{token, Trees, nil, leaf, node, leaves, Symbol, Fits, fits_nil, fits_leaf, fits_node}
use Rattle.grammar.specs.Grammar.{rules}
use Rattle.grammar.specs.Notation.{t, r}
use Rattle.grammar.specs.Rules.{<atom>}
use Rattle.grammar.specs.Parts.{place_at}
use Rattle.answers.specs.Expression.{Expression, negation, binary, Operator, operators, operator_code, Pending, nothing, operator, operator_among, joined, spelled}
use Rattle.answers.specs.Rows.{Draft}
use Rattle.elements.specs.Symbols.{symbols_of, phrase_symbols, GROUP_CLOSE}
use Rattle.fields.specs.Words.{word_codes, code_of, word_draft}
use Rattle.walk.specs.Meanings.{◌⧺◌, Counted, Silent, Worded, rows_for, OperandRows, Tailing}
use Rattle.walk.proofs.TreeLaws.{beside_nil, leaves_beside}
use Rattle.walk.proofs.Walks.{Joins}

-- an operand, and what stands beside it
spelled_operand :
    {A : ℕ} {f : Trees} (pending : Pending) (left e : Expression) (g : Trees)
    → Fits rules (r A ∷ []) f → spelled left nothing f ≡ e → spelled left pending (f ⧺ g) ≡ spelled (joined pending left e) nothing g
unfolding ◌⧺◌
spelled_operand pending left e g (fits_node q h fits_nil) m = ap (λ (x : Expression). spelled (joined pending left x) nothing g) m

module _ (s : List ℕ) (parent : ℕ) where
  -- ---- levels

  -- a first operand, and its tail
  pub level_joins : {A B at n : ℕ} → Joins (r A ∷ []) (r B ∷ []) (OperandRows s parent) (Tailing s parent) (OperandRows s parent) at n
  level_joins f g ds es k l h₁ h₂ x y =
      record {
        expr = spelled x.expr nothing g;
        spells = λ left. spelled_operand nothing left x.expr g h₁ (x.spells left);
        rows = rw x.rows (y.rows x.expr);
        no_rules = rw (x.no_rules, y.no_rules);
      }

  -- a level over its operand and tail
  pub level_node :
      {A i at n : ℕ} {c : Trees} {ds : List Draft} {k : ℕ}
      → eqb A <atom> ≡ false → OperandRows s parent at n c ds k → OperandRows s parent at n (node A i c nil) ds k
  level_node b m = record { expr = m.expr; spells = λ left. rw (b, spelled) (m.spells left); rows = m.rows; no_rules = m.no_rules }

  -- an empty tail
  pub tail_none : {at n : ℕ} {f : Trees} {ds : List Draft} {k : ℕ} → Fits rules [] f → Silent at n f ds k → Tailing s parent at n f ds k
  tail_none fits_nil m = record { rows = λ left. rw m.no_rows (append-nil (rows_for s parent left)); no_rules = m.no_rules }

  pub tail_node :
      {A i at n : ℕ} {c : Trees} {ds : List Draft} {k : ℕ}
      → eqb A <atom> ≡ false → Tailing s parent at n c ds k → Tailing s parent at n (node A i c nil) ds k
  tail_node b m = record { rows = λ left. rw (b, spelled) (m.rows left); no_rules = m.no_rules }

  -- ---- a word, its operand, and then the word's row

  -- the token of class k at the place p
  pub record Passing (k p at n : ℕ) (f : Trees) (ds : List Draft) (c : ℕ) : Type 0 where
    pub is : f ≡ leaf (token k p) nil
    pub no_rows : ds ≡ []
    pub no_rules : c ≡ 0

  -- the row of the word k at the place p, and no tree
  pub record After (k p at n : ℕ) (f : Trees) (ds : List Draft) (c : ℕ) : Type 0 where
    pub row : ds ≡ word_draft k parent p ∷ []
    pub no_rules : c ≡ 0

  pub word_joins : {k p at n : ℕ} → Joins (t k ∷ []) [] (Passing k p) (After k p) (Counted (Worded s parent)) at n
  unfolding ◌⧺◌
  word_joins f g ds es c l h₁ fits_nil x y =
      rw (x.is, x.no_rows, y.row, x.no_rules, y.no_rules)
      (record { means = record { row = refl; no_rules = refl }; few = omega arith; fewer = omega arith })

  -- the word and its operand; a token is left for the row
  pub record Operated (k p at n : ℕ) (f : Trees) (ds : List Draft) (c : ℕ) : Type 0 where
    pub expr : Expression
    pub starts : (g : Trees) → place_at 0 (f ⧺ g) ≡ p
    pub spells :
        (left : Expression) (g : Trees)
        → spelled left nothing (f ⧺ g) ≡ spelled (joined (operator_among operators (token k p)) left expr) nothing g
    pub rows : ds ≡ rows_for s parent expr
    pub no_rules : c ≡ 0
    pub spare : length ds < length (leaves f)

  -- and the row
  pub record Finished (k p at n : ℕ) (f : Trees) (ds : List Draft) (c : ℕ) : Type 0 where
    pub expr : Expression
    pub starts : (g : Trees) → place_at 0 (f ⧺ g) ≡ p
    pub spells :
        (left : Expression) (g : Trees)
        → spelled left nothing (f ⧺ g) ≡ spelled (joined (operator_among operators (token k p)) left expr) nothing g
    pub rows : ds ≡ rows_for s parent expr ++ word_draft k parent p ∷ []
    pub no_rules : c ≡ 0
    pub few : length ds ≤ length (leaves f)

  pub operated_joins : {k p B at n : ℕ} → Joins (t k ∷ []) (r B ∷ []) (Passing k p) (Counted (OperandRows s parent)) (Operated k p) at n
  unfolding ◌⧺◌
  operated_joins {k} {p} f g ds es c l h₁ h₂ x y =
      rw (x.is, x.no_rows)
      (record {
        expr = y.means.expr;
        starts = λ h. refl;
        spells = λ left h. spelled_operand (operator_among operators (token k p)) left y.means.expr h h₂ (y.means.spells left);
        rows = y.means.rows;
        no_rules = rw (x.no_rules, y.means.no_rules);
        spare = let a = y.few in omega arith;
      })

  pub finished_joins : {k p at n : ℕ} {α : List Symbol} → Joins α [] (Operated k p) (After k p) (Finished k p) at n
  finished_joins {k} {p} f g ds es c l h₁ fits_nil x y =
      let size = length-append ds (word_draft k parent p ∷ []) in
      rw (beside_nil f, y.row)
      (record {
        expr = x.expr;
        starts = x.starts;
        spells = x.spells;
        rows = rw x.rows;
        no_rules = rw (x.no_rules, y.no_rules);
        few = let a = x.spare in omega arith;
      })

  -- an operator of a tail, its right operand, its row, and the tail after it
  pub tail_joins :
      {o : Operator} {k p at n : ℕ} {α : List Symbol} {B : ℕ}
      → operator_among operators (token k p) ≡ operator o p → code_of k ≡ operator_code o
      → Joins α (r B ∷ []) (Finished k p) (Counted (Tailing s parent)) (Counted (Tailing s parent)) at n
  unfolding rows_for
  tail_joins {o} {k} {p} a b f g ds es c l h₁ h₂ x y =
      let row = word_draft k parent p ∷ [] in
      record {
        means = record {
          rows = λ left.
              let whole = binary o p left x.expr in
              let mine : rows_for s parent left ++ ds ≡ rows_for s parent whole = rw (x.rows, b) in
              let spells : spelled left nothing (f ⧺ g) ≡ spelled whole nothing g = x.spells left g ∙ rw a in
              sym (append_assoc (rows_for s parent left) ds es) ∙ (ap (λ (l : List Draft). l ++ es) mine ∙ (y.means.rows whole ∙ ap (rows_for s parent) (sym spells)));
          no_rules = rw (x.no_rules, y.means.no_rules);
        };
        few = rw (length-append ds es, leaves_beside f g, length-append (leaves f) (leaves g)) (let m = x.few in let m' = y.few in omega arith);
        fewer = rw (x.no_rules, y.means.no_rules) (omega arith);
      }

  -- ---- atoms over atoms

  -- NOT atom
  pub negation_node :
      {p at n : ℕ} {c : Trees} {ds : List Draft} {k : ℕ}
      → Finished class.«NOT» p at n c ds k → Counted (OperandRows s parent) at n (node <atom> 0 c nil) ds k
  unfolding rows_for code_of word_codes
  negation_node {p} {c = c} m =
      let place : place_at 0 c ≡ p = rw (beside_nil c) at (m.starts nil) in
      record {
        means = record {
          expr = negation p m.expr;
          spells = λ left.
              let inner : spelled left nothing c ≡ m.expr = rw (beside_nil c) at (m.spells left nil) in
              rw (place, inner);
          rows = m.rows;
          no_rules = m.no_rules;
        };
        few = rw (append-nil (leaves c)) m.few;
        fewer = rw m.no_rules (omega arith);
      }

  -- ( expression )
  pub group_joins :
      {p at n : ℕ} {α : List Symbol}
      → Joins α (symbols_of GROUP_CLOSE) (Operated open_paren p) (Counted Silent) (Counted (OperandRows s parent)) at n
  unfolding symbols_of phrase_symbols
  group_joins f g ds es c l h₁ (fits_leaf fits_nil) x y =
      rw (y.means.no_rows, append-nil ds)
      (record {
        means = record { expr = x.expr; spells = λ left. x.spells left g; rows = x.rows; no_rules = rw (x.no_rules, y.means.no_rules) };
        few = rw (leaves_beside f g, length-append (leaves f) (leaves g)) (let a = x.spare in omega arith);
        fewer = rw (x.no_rules, y.means.no_rules) (omega arith);
      })

  pub group_node :
      {at n : ℕ} {c : Trees} {ds : List Draft} {k : ℕ}
      → OperandRows s parent at n c ds k → OperandRows s parent at n (node <atom> 1 c nil) ds k
  group_node m = record { expr = m.expr; spells = m.spells; rows = m.rows; no_rules = m.no_rules }
