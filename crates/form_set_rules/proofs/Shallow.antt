-- The expressions of rules go no deeper than document 01 allows.
-- Assumes nothing.
use Prim.Native.Nat.{ℕ, zero, suc}
use native.Mathlib.Omega.{arith}
use mathlib.Core.List.{List, [], ◌∷◌, ◌++◌}
use lib.Dec.{eqb}
use lib.ListN.{get_or}
use Rattle.lexemes.proofs.Lists.{either}
use Rattle.ll1.specs.Trees.{Trees, Symbol, Depth}
use Rattle.grammar.specs.Rules.{<rule>}
use Rattle.grammar.specs.Positions.{rule_expression}
use Rattle.answers.specs.Expression.{undefined'}
use Rattle.formulas.specs.Formula.{Formula, f_constant}
use Rattle.formulas.specs.Need.{need}
use Rattle.formulas.specs.Fitted.{Fitted, f_nil, f_leaf, f_node}
use Rattle.formulas.specs.Expressions.{Shallow}
use Rattle.formulas.proofs.Theorems.{part_shallow}
use Rattle.meaning.specs.Rules.{rule_at}
use Rattle.form_set_rules.specs.Rules.{rule_in, rules_of}
use Rattle.form_set_rules.proofs.Grammar.{has_expression}

pub data AllShallow : List Formula → Type 0 where
  no_rules : AllShallow []
  add_rule : {e : Formula} {l : List Formula} → Shallow e → AllShallow l → AllShallow (e ∷ l)

shallow_append : {k l : List Formula} → AllShallow k → AllShallow l → AllShallow (k ++ l)
shallow_append no_rules b = b
shallow_append (add_rule e a) b = add_rule e (shallow_append a b)

undefined_shallow : Shallow (f_constant undefined')
unfolding need
undefined_shallow = record { groups = omega arith; levels = omega arith }

shallow_at : {l : List Formula} → AllShallow l → (m : ℕ) → Shallow (get_or l m (f_constant undefined'))
shallow_at no_rules m = undefined_shallow
shallow_at (add_rule e a) zero = e
shallow_at (add_rule e a) (suc m) = shallow_at a m

pub rule_shallow : {l : List Formula} → AllShallow l → (k : ℕ) → Shallow (rule_at l k)
unfolding rule_at
rule_shallow a zero = undefined_shallow
rule_shallow a (suc m) = shallow_at a m

module _ (look : ℕ → List ℕ) where
  pub rules_shallow : {d : Depth} {σ : List Symbol} {f : Trees} → Fitted d σ f → AllShallow (rules_of look f)
  unfolding rules_of
  rules_shallow f_nil = no_rules
  rules_shallow (f_leaf u h) = rules_shallow h
  rules_shallow (f_node {A = A} {i = i} {c = c} e h₁ h₂) = shallow_append own (shallow_append (rules_shallow h₁) (rules_shallow h₂))
    where
      own : AllShallow (rule_in look A c)
      own =
          either (eqb A <rule>)
          (λ q. rw (q, rule_in) (add_rule (part_shallow look rule_expression h₁ (has_expression A i e q)) no_rules))
          (λ q. rw (q, rule_in) no_rules)
