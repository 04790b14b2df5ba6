-- What the nodes of trees have of their own, gathered from left to right: where it is some of the leaves' places, and where there is none.
-- Assumes nothing.
use mathlib.Core.Path.{◌≡◌, refl, ap, sym}
use mathlib.Core.List.{List, [], ◌∷◌, ◌++◌, append_assoc}
use mathlib.Core.Option.{some}
use mathlib.Core.Bool.{Bool, true, not, ◌&&◌, ◌||◌}
use Prim.Native.Nat.{ℕ, zero, suc}
use Rattle.ll1.specs.Trees.{Token, token, Trees, nil, leaf, node, leaves, Symbol, terminal, nonterminal, Alternative, alternative_of}
use Rattle.ll1.specs.Trees.{Fits, fits_nil, fits_leaf, fits_node}
use Rattle.ll1.specs.ParseTable.{member}
use Rattle.ll1.proofs.Basics.{both, implied}
use Rattle.grammar.specs.Grammar.{rules}
use Rattle.grammar.specs.Parts.{child}
use Rattle.grammar.specs.Places.{places_of}
use Rattle.grammar.specs.Ranges.{gathered}
use Rattle.grammar.proofs.Alternatives.{everywhere, at_alternative}
use Rattle.earliest.specs.Order.{Sublist, sublist_none, sublist_skip}
use Rattle.earliest.proofs.Sublists.{sublist_append}

-- ---- places

-- of the leaves, from left to right
abbrev pub places : Trees → List ℕ
places nil = []
places (leaf (token k p) f) = p ∷ places f
places (node A i c f) = places c ++ places f

places_append : (ts us : List Token) → places_of (ts ++ us) ≡ places_of ts ++ places_of us
places_append [] us = refl
places_append (token k p ∷ ts) us = ap (◌∷◌ p) (places_append ts us)

pub places_are : (f : Trees) → places f ≡ places_of (leaves f)
places_are nil = refl
places_are (leaf (token k p) f) = ap (◌∷◌ p) (places_are f)
places_are (node A i c f) = rw (places_are c, places_are f) (sym (places_append (leaves c) (leaves f)))

-- ---- rules

-- each rule among the symbols is in the list
abbrev pub within : List ℕ → List Symbol → Bool
within l [] = true
within l (terminal k ∷ σ) = within l σ
within l (nonterminal A ∷ σ) = member A l && within l σ

-- no other rule stands under one of the list
abbrev pub closed : List ℕ → Bool
closed l = everywhere (λ A i a. not (member A l) || within l a.symbols)

-- ---- what is gathered

module _ (own : ℕ → ℕ → Trees → List ℕ) where
  -- what is gathered under each of the trees is some of the places of the leaves there, in source order;
  abbrev Under : Trees → Type 0
  Under f = (n : ℕ) → Sublist (gathered own (child n f)) (places (child n f))

  -- and so is what is gathered in all of them
  pub record InOrder (f : Trees) : Type 0 where
    pub all : Sublist (gathered own f) (places f)
    pub under : Under f

  under_nil : Under nil
  unfolding gathered
  under_nil n = sublist_none

  under_leaf : (t : Token) (f : Trees) → Under f → Under (leaf t f)
  unfolding gathered
  under_leaf t f u zero = sublist_none
  under_leaf t f u (suc n) = u n

  under_node : (A i : ℕ) (c f : Trees) → Sublist (gathered own c) (places c) → Under f → Under (node A i c f)
  under_node A i c f v u zero = v
  under_node A i c f v u (suc n) = u n

  -- for this it is enough that at each node what is gathered under it and then its own is so
  abbrev pub AtNodes : Type 0
  AtNodes =
      (A i : ℕ) (a : Alternative) (c : Trees)
      → alternative_of rules A i ≡ some a → Fits rules a.symbols c → InOrder c → Sublist (gathered own c ++ own A i c) (places c)

  pub in_order_lem : {σ : List Symbol} {f : Trees} → AtNodes → Fits rules σ f → InOrder f
  unfolding gathered
  in_order_lem h fits_nil = record { all = sublist_none; under = under_nil }
  in_order_lem h (fits_leaf {k = k} {p = p} {f = f} r) =
      let rest = in_order_lem h r in
      record { all = sublist_skip rest.all; under = under_leaf (token k p) f rest.under }
  in_order_lem h (fits_node {A = A} {i = i} {a = a} {c = c} {f = f} e r₁ r₂) =
      let inner = in_order_lem h r₁ in
      let rest = in_order_lem h r₂ in
      let whole : Sublist (gathered own c ++ own A i c ++ gathered own f) (places c ++ places f) =
      sublist_append (h A i a c e r₁ inner) rest.all in
      record {
        all = rw (append_assoc (gathered own c) (own A i c) (gathered own f)) at whole;
        under = under_node A i c f inner.all rest.under;
      }

  -- where no rule of a closed list has any of its own, nothing is gathered
  module _ (l : List ℕ) (shut : closed l ≡ true) (silent : (A i : ℕ) (c : Trees) → member A l ≡ true → own A i c ≡ []) where
    pub gathered_none : {σ : List Symbol} {f : Trees} → Fits rules σ f → within l σ ≡ true → gathered own f ≡ []
    unfolding gathered
    gathered_none fits_nil h = refl
    gathered_none (fits_leaf r) h = gathered_none r h
    gathered_none (fits_node {A = A} {i = i} {a = a} {c = c} e r₁ r₂) h =
        let t = both (member A l) _ h in
        let under = implied (member A l) (within l a.symbols) (at_alternative _ shut e) t.0 in
        rw (gathered_none r₁ under, silent A i c t.0, gathered_none r₂ t.1)
