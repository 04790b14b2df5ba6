-- What holds of every expression of a screen, by its parts; and that the expressions of a derivation that is nowhere too deep are shallow.
-- Assumes nothing.
use Prim.Native.Nat.{ℕ}
use mathlib.Core.Path.{◌≡◌, refl, sym}
use mathlib.Core.Bool.{true, not, ◌&&◌, ◌||◌}
use mathlib.Core.List.{List}
use mathlib.Core.Option.{Option, none, some}
use lib.Dec.{eqb, ltb}
use Rattle.lexemes.proofs.Lists.{either}
use Rattle.ll1.specs.Trees.{Token, Trees, Symbol, Alternative, alternative_of, Depth, deeper}
use Rattle.ll1.proofs.Basics.{clash, implied}
use Rattle.grammar.specs.Rules.{<item>, <rule>, <expression>}
use Rattle.grammar.specs.Grammar.{rules}
use Rattle.grammar.specs.Parts.{child}
use Rattle.grammar.specs.Derivation.{Derives, NowhereTooDeep}
use Rattle.grammar.proofs.Alternatives.{everywhere, at_alternative}
use Rattle.answers.specs.Expression.{expression}
use Rattle.formulas.specs.Formula.{Formula, formula}
use Rattle.formulas.specs.Fitted.{Fitted, f_nil, f_leaf, f_node}
use Rattle.formulas.specs.Expressions.{rule_at, Shallow}
use Rattle.formulas.proofs.Fitted.{fitted}
use Rattle.formulas.proofs.Theorems.{part_shallow}
use Rattle.laid.specs.Items.{Items}
use Rattle.laid.specs.Items as items
use Rattle.laid.specs.Statements.{makes_row, inner_of, items_of}
use Rattle.screen.specs.Screen.{Screen, done, statement, expression_of, screen_of, source_screen}
use Rattle.screen.specs.Round.{first, in_it, after_it, EachExpression}
use Rattle.screen.proofs.RowLaws.{stands_cases}

-- ---- of a statement: its own expression, those in it and those after it

module _ (P : Formula → Type 0) where
  pub each_done : EachExpression P done
  each_done code row e inner st = elim st [ ]

  pub each_statement :
      (k : ℕ) (f : Option Formula) (within later : Screen)
      → ((x : Formula) → f ≡ some x → P x) → EachExpression P within → EachExpression P later → EachExpression P (statement k f within later)
  each_statement k f within later own u v code row e inner st =
      stands_cases st (λ z c q i. own e (sym q)) (λ at w q. u code at e inner w) (λ at w q. v code at e inner w)

  module _ {k : ℕ} {f : Option Formula} {within later : Screen} (each : EachExpression P (statement k f within later)) where
    pub each_own : (x : Formula) → f ≡ some x → P x
    each_own x q = each k 0 x within (rw q first)

    pub each_within : EachExpression P within
    each_within code row e inner st = each _ _ _ _ (in_it st refl)

    pub each_later : EachExpression P later
    each_later code row e inner st = each _ _ _ _ (after_it st refl)

-- ---- the expressions of a derivation that is nowhere too deep

-- the expression of a condition, and of a rule
conditions_expressed : everywhere (λ A i a. not (eqb A <item> && ltb 6 i) || rule_at 1 <expression> a.symbols) ≡ true
unfolding rules
conditions_expressed = refl

rules_expressed : everywhere (λ A i a. not (eqb A <rule>) || rule_at 3 <expression> a.symbols) ≡ true
unfolding rules
rules_expressed = refl

module _ (found : ℕ → List ℕ) where
  inner_shallow :
      (d : Depth) (A i : ℕ) (a : Alternative) (c : Trees) → alternative_of rules A i ≡ some a → Fitted (deeper d a.opens) a.symbols c
      → (x : Formula) → expression_of found (inner_of A i c) ≡ some x → Shallow x
  inner_shallow d A i a c q h x e =
      either (eqb A <item>)
      (λ item. either (ltb 6 i)
      (λ condition.
      shallow 1 (implied (eqb A <item> && ltb 6 i) _ (at_alternative _ conditions_expressed q) (rw (item, condition))) (rw (item, inner_of, condition) at e))
      (λ other. clash (let z : none ≡ some x = rw (item, inner_of, other) at e in cc)))
      (λ other. either (eqb A <rule>)
      (λ rule. shallow 3 (implied (eqb A <rule>) _ (at_alternative _ rules_expressed q) rule) (rw (other, inner_of, rule) at e))
      (λ none_of_them. clash (let z : none ≡ some x = rw (other, inner_of, none_of_them) at e in cc)))
    where
      shallow : (n : ℕ) → rule_at n <expression> a.symbols ≡ true → some (formula found (expression (child n c))) ≡ some x → Shallow x
      shallow n w z = let same : formula found (expression (child n c)) ≡ x = cc in rw same at (part_shallow found n h w)

  pub items_shallow :
      {d : Depth} {σ : List Symbol} {f : Trees} → Fitted d σ f → (z : Items) → EachExpression Shallow (screen_of found z)
      → EachExpression Shallow (screen_of found (items_of f z))
  unfolding items_of screen_of
  items_shallow f_nil z h = h
  items_shallow (f_leaf u r) z h = items_shallow r z h
  items_shallow (f_node {d = d} {A = A} {i = i} {a = a} {c = c} {f = f} q r₁ r₂) z h =
      either (makes_row A)
      (λ made.
      rw (made, items_of)
      (each_statement Shallow _ _ (screen_of found (items_of c items.done)) (screen_of found (items_of f z))
      (inner_shallow d A i a c q r₁) (items_shallow r₁ items.done (each_done Shallow)) (items_shallow r₂ z h)))
      (λ made. rw (made, items_of) (items_shallow r₁ (items_of f z) (items_shallow r₂ z h)))

  pub source_shallow : {ts : List Token} {tree : Trees} → Derives ts tree → NowhereTooDeep tree → EachExpression Shallow (source_screen found tree)
  unfolding source_screen screen_of
  source_shallow {tree = tree} derives deep =
      each_statement Shallow _ none (screen_of found (items_of tree items.done)) done
      (λ x e. clash cc)
      (items_shallow (fitted derives.fits deep) items.done (each_done Shallow))
      (each_done Shallow)
