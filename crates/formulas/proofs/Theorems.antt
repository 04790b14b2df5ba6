-- The expressions of an accepted source nest at most 32 groups, with at most nine levels in each.
-- Assumes nothing.
use mathlib.Core.Path.{◌≡◌, sym, subst}
use mathlib.Core.List.{List}
use mathlib.Core.Option.{some}
use mathlib.Core.Bool.{true}
use Prim.Native.Nat.{ℕ, zero, suc, ◌≤◌}
use native.Mathlib.Omega.{arith}
use borrow.Author.Tests.{eqb-true}
use Rattle.ll1.specs.Trees.{Token, Trees, Symbol, Alternative, alternative_of, Depth, depth, deeper}
use Rattle.ll1.proofs.Basics.{clash}
use Rattle.grammar.specs.Rules.{<expression>}
use Rattle.grammar.specs.Parts.{child}
use Rattle.grammar.specs.Grammar.{rules}
use Rattle.grammar.specs.Derivation.{Derives, NowhereTooDeep}
use Rattle.answers.specs.Expression.{number, expression}
use Rattle.answers.specs.WholeAnswer.{read_answer}
use Rattle.answers.specs.Demand3.{Sound}
use Rattle.answers.proofs.Answers.{passes_sound}
use Rattle.answers.proofs.Demand3.{accepts_passing}
use Rattle.formulas.specs.Fitted.{Fitted, f_nil, f_leaf, f_node}
use Rattle.formulas.specs.Formula.{Formula, formula, nest}
use Rattle.formulas.specs.Expressions.{ExpressionIn, here, past_leaf, past_node, inside, rule_at, Shallow}
use Rattle.formulas.proofs.Fitted.{fitted}
use Rattle.formulas.proofs.Nesting.{expression_node}
use Rattle.formulas.proofs.Need.{need_most}

shallow : (e : Formula) → nest 9 e ≤ 32 → Shallow e
shallow e h = record { groups = h; levels = need_most e h }

-- the rows of a source tell its values by their places: whatever they tell
module _ (look : ℕ → List ℕ) where
  -- the expression of the node that stands under x conditions and y groups
  pub node_shallow :
      (x y i : ℕ) (a : Alternative) (c : Trees) → alternative_of rules <expression> i ≡ some a → Fitted (deeper (depth x y) a.opens) a.symbols c
      → Shallow (formula look (expression c))
  unfolding expression
  node_shallow x y i a c e h =
      let m = expression_node look {d = x} {g = y} {i = i} {a = a} {c = c} e h in
      subst (λ z. Shallow (formula look z)) (sym (m.is (number 0))) (shallow (formula look m.expr) (omega (arith, m.deep)))

  -- every expression among trees that are nowhere too deep
  pub fitted_shallow : {d : Depth} {σ : List Symbol} {f c : Trees} → Fitted d σ f → ExpressionIn c f → Shallow (formula look (expression c))
  fitted_shallow f_nil k = elim k [ ]
  fitted_shallow (f_node {d = depth x y} {i = i} {a = a} {c = c} e h₁ h₂) here = node_shallow x y i a c e h₁
  fitted_shallow (f_leaf u h) (past_leaf k) = fitted_shallow h k
  fitted_shallow (f_node e h₁ h₂) (past_node k) = fitted_shallow h₂ k
  fitted_shallow (f_node e h₁ h₂) (inside k) = fitted_shallow h₁ k

  -- the n-th of such trees, where the grammar has an expression in that place
  pub part_shallow : {d : Depth} {σ : List Symbol} {f : Trees} (n : ℕ) → Fitted d σ f → rule_at n <expression> σ ≡ true → Shallow (formula look (expression (child n f)))
  part_shallow n f_nil k = clash cc
  part_shallow zero (f_leaf u h) k = clash cc
  part_shallow (suc n) (f_leaf u h) k = part_shallow n h k
  part_shallow zero (f_node {d = depth x y} {A = A} {i = i} {a = a} {c = c} e h₁ h₂) k = node_shallow x y i a c (rw (eqb-true A <expression> k) at e) h₁
  part_shallow (suc n) (f_node e h₁ h₂) k = part_shallow n h₂ k

  -- every expression of a derivation that is nowhere too deep
  pub expressions_shallow :
      {ts : List Token} {tree c : Trees} → Derives ts tree → NowhereTooDeep tree → ExpressionIn c tree → Shallow (formula look (expression c))
  expressions_shallow d deep k = fitted_shallow (fitted d.fits deep) k

-- every expression of an accepted source: it has a derivation (the only one, as `grammar` shows), and each `expression` in it nests at most 32
-- groups, with at most nine levels in each
pub accepted_shallow :
    (s : List ℕ) (n : ℕ) → (read_answer s n).number ≡ 0
    → (tree : Trees) × Sound s tree × ((look : ℕ → List ℕ) (c : Trees) → ExpressionIn c tree → Shallow (formula look (expression c)))
accepted_shallow s n h =
    let w = (accepts_passing s n).0 h in
    let k = passes_sound w.1 in
    (w.0, k, λ look c z. expressions_shallow look k.derives k.depths z)
