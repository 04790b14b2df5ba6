-- The places of a derivation's rows weigh at most what those of its leaves do: each row has a leaf of its own.
-- Assumes nothing.
use mathlib.Core.Path.{◌≡◌, refl}
use mathlib.Core.List.{List, [], ◌∷◌, ◌++◌}
use mathlib.Core.Bool.{Bool, true, false, cond, not}
use Prim.Native.Nat.{ℕ, zero, suc, ◌+◌, ◌≤◌}
use native.Mathlib.Omega.{arith}
use lib.Dec.{eqb, ltb}
use borrow.Author.Tests.{eqb-true, not-true}
use Rattle.lexemes.proofs.Lists.{either}
use Rattle.ll1.specs.Trees.{Trees, Symbol, terminal, nonterminal, Fits, fits_nil, fits_leaf, fits_node}
use Rattle.ll1.proofs.Basics.{clash, both}
use Rattle.grammar.specs.Rules.{<source>, <form>, <rule>, <item>, <option>, <or>}
use Rattle.grammar.specs.Grammar.{rules}
use Rattle.grammar.specs.Parts.{child}
use Rattle.answers.specs.Expression.{expression}
use Rattle.grammar.proofs.Alternatives.{everywhere, at_alternative}
use Rattle.grammar.proofs.Statements.{statements, states, apart, free, no_statements}
use Rattle.answers.specs.RowPlaces.{own_places, tree_places}
use Rattle.grammar.specs.Places.{total}
use Rattle.grammar.proofs.Totals.{total_append, load}
use Rattle.answers.proofs.ExpressionWeight.{weight, weight_total, heads, first_head, expression_light}

-- ---- rules with no rows in them

own_none : (A i : ℕ) (c : Trees) → states A ≡ false → own_places A i c ≡ []
unfolding own_places
own_none A i c h = rw (apart A <item> h refl, apart A <option> h refl, apart A <rule> h refl, apart A <form> h refl, apart A <source> h refl)

pub none_places : {σ : List Symbol} {f : Trees} → Fits rules σ f → free statements σ ≡ true → tree_places f ≡ []
unfolding tree_places
none_places fits_nil h = refl
none_places (fits_leaf r) h = none_places r h
none_places (fits_node {A = A} {i = i} {a = a} {c = c} e r₁ r₂) h =
    let t = both (not (states A)) _ h in
    rw (own_none A i c (not-true (states A) t.0), none_places r₁ (no_statements A i a e (rw t.0)), none_places r₂ t.1)

-- ---- what a node's own rows take of the trees under it

-- so many words at their start; so many words and then an expression
data Taken : Type 0 where
  words : ℕ → Taken
  words_and_expression : ℕ → Taken

-- the symbols have it
abbrev has : Taken → List Symbol → Bool
has (words zero) σ = true
has (words (suc n)) [] = false
has (words (suc n)) (terminal k ∷ σ) = has (words n) σ
has (words (suc n)) (nonterminal A ∷ σ) = false
has (words_and_expression n) [] = false
has (words_and_expression zero) (terminal k ∷ σ) = false
has (words_and_expression (suc n)) (terminal k ∷ σ) = has (words_and_expression n) σ
has (words_and_expression zero) (nonterminal A ∷ σ) = eqb A <or>
has (words_and_expression (suc n)) (nonterminal A ∷ σ) = false

-- of a node of rule A that takes alternative i
taken : ℕ → ℕ → Taken
taken A i =
    cond (eqb A <item>) (cond (ltb 6 i) (words_and_expression 1) (words 1))
    (cond (eqb A <option>) (words 1)
    (cond (eqb A <rule>) (words_and_expression 3)
    (cond (eqb A <form>) (words 1)
    (cond (eqb A <source>) (words 1) (words 0)))))

all_taken : everywhere (λ A i a. has (taken A i) a.symbols) ≡ true
unfolding rules taken
all_taken = refl

module _ (w : ℕ → ℕ) where
  -- what it weighs
  abbrev room : Taken → Trees → ℕ
  room (words n) f = heads w n f
  room (words_and_expression n) f = heads w n f + weight w (expression (child n f))

  own_light : (A i : ℕ) (c : Trees) → total w (own_places A i c) ≤ room (taken A i) c
  unfolding taken own_places
  own_light A i c =
      let one = first_head w 0 c in
      either (eqb A <item>)
      (λ e. rw (e, room) (either (ltb 6 i) (λ l. rw l (omega (arith, weight_total w (expression (child 1 c))))) (λ l. rw l (omega arith))))
      (λ e. rw (e, room) (either (eqb A <option>) (λ e. rw e (omega arith))
      (λ e. rw e (either (eqb A <rule>) (λ e. rw e (omega (arith, first_head w 2 c, weight_total w (expression (child 3 c)))))
      (λ e. rw e (either (eqb A <form>) (λ e. rw e (omega arith))
      (λ e. rw e (either (eqb A <source>) (λ e. rw e (omega arith)) (λ e. rw e (omega arith))))))))))

  -- of a node: its own, those of the trees under it, those of the trees beside it
  three_total : (ps qs rs : List ℕ) → total w ((ps ++ qs) ++ rs) ≡ total w ps + total w qs + total w rs
  three_total ps qs rs = omega (arith, total_append w (ps ++ qs) rs, total_append w ps qs)

  taken_light : {σ : List Symbol} {f : Trees} (m : Taken) → Fits rules σ f → has m σ ≡ true → room m f + total w (tree_places f) ≤ load w f
  unfolding tree_places
  taken_light (words zero) fits_nil h = omega arith
  taken_light (words (suc m)) fits_nil h = clash cc
  taken_light (words_and_expression m) fits_nil h = clash cc
  taken_light (words zero) (fits_leaf r) h = omega (arith, taken_light (words zero) r refl)
  taken_light (words (suc m)) (fits_leaf r) h = omega (arith, taken_light (words m) r h)
  taken_light (words_and_expression zero) (fits_leaf r) h = clash cc
  taken_light (words_and_expression (suc m)) (fits_leaf r) h = omega (arith, taken_light (words_and_expression m) r h)
  taken_light (words zero) (fits_node {A = A} {i = i} {c = c} {f = f} e r₁ r₂) h =
      let under = taken_light (taken A i) r₁ (at_alternative _ all_taken e) in
      let beside = taken_light (words zero) r₂ refl in
      omega (arith, own_light A i c, three_total (own_places A i c) (tree_places c) (tree_places f))
  taken_light (words (suc m)) (fits_node e r₁ r₂) h = clash cc
  taken_light (words_and_expression zero) (fits_node {A = A} {i = i} {a = a} {c = c} {f = f} e r₁ r₂) h =
      let is : A ≡ <or> = eqb-true A <or> h in
      let none : states A ≡ false = rw is in
      let under = none_places r₁ (no_statements A i a e (rw none)) in
      let beside = taken_light (words zero) r₂ refl in
      rw (own_none A i c none, under) (omega (arith, expression_light w i a c (rw is at e) r₁))
  taken_light (words_and_expression (suc m)) (fits_node e r₁ r₂) h = clash cc

  pub rows_light : {σ : List Symbol} {f : Trees} → Fits rules σ f → total w (tree_places f) ≤ load w f
  rows_light r = omega (arith, taken_light (words zero) r refl)
