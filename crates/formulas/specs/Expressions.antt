-- The expressions of a source's derivation; and how deep an expression may go.
-- Assumes nothing.
use Rattle.std.specs.Prelude.{List, [], ◌∷◌, Bool, false, ℕ, zero, suc, ◌≤◌, eqb}
use Rattle.ll1.specs.Trees.{Token, Trees, leaf, node, Symbol, terminal, nonterminal}
use Rattle.grammar.specs.Rules.{<expression>}
use Rattle.grammar.specs.Derivation.{max_groups}
use Rattle.formulas.specs.Formula.{Formula, nest}
use Rattle.formulas.specs.Need.{need, MOST_WAITING}

-- among the trees f, at any depth, stands an `expression` with the trees c under it
pub data ExpressionIn (c : Trees) : Trees → Type 0 where
  here : {i : ℕ} {f : Trees} → ExpressionIn c (node <expression> i c f)
  past_leaf : {t : Token} {f : Trees} → ExpressionIn c f → ExpressionIn c (leaf t f)
  past_node : {A i : ℕ} {d f : Trees} → ExpressionIn c f → ExpressionIn c (node A i d f)
  inside : {A i : ℕ} {d f : Trees} → ExpressionIn c d → ExpressionIn c (node A i d f)

-- the n-th of the symbols is the rule A
abbrev pub rule_at : ℕ → ℕ → List Symbol → Bool
rule_at n A [] = false
rule_at zero A (terminal k ∷ σ) = false
rule_at (suc n) A (terminal k ∷ σ) = rule_at n A σ
rule_at zero A (nonterminal B ∷ σ) = eqb B A
rule_at (suc n) A (nonterminal B ∷ σ) = rule_at n A σ

-- an expression that goes no deeper than one of an accepted source
pub record Shallow (e : Formula) : Type 0 where
  -- "at most 32 unfinished grouping parentheses and `NOT`s in one expression" (document 01, Depths), also with the fewest parentheses
  pub groups : nest 9 e ≤ max_groups
  -- with at most nine levels in each of these groups and outside them all: so few values wait at once
  pub levels : need e ≤ MOST_WAITING
