-- No list of tokens has two derivations.
-- Assumes nothing.
use mathlib.Core.Path.{◌≡◌, refl, ap, sym, ◌∙◌, subst}
use mathlib.Core.List.{List, [], ◌∷◌, ◌++◌, append_assoc, append-nil}
use mathlib.Core.Option.{some}
use mathlib.Core.Bool.{true}
use Prim.Native.Nat.{ℕ}
use Rattle.ll1.specs.Trees.{Token, token, Trees, leaves, Symbol, nonterminal, Alternative, Grammar, alternative_of, Fits, fits_nil, fits_leaf, fits_node}
use Rattle.ll1.specs.ParseTable.{ParseTable, choose, nullable}
use Rattle.ll1.specs.Machine.{all_nullable}
use Rattle.ll1.proofs.Basics.{clash, same, append_empty}
use Rattle.ll1.proofs.Ll1.{first, follows, Separated, Ll1, first_rule, separated_in}

module _ (G : Grammar) (P : ParseTable) where
  -- the tokens x can come after what was read, where the symbols σ are due: there are none, or the first is one that σ can start with
  abbrev pub After : List Symbol → List Token → Type 0
  After σ [] = Unit {0}
  After σ (token k p ∷ x) = first G P σ k ≡ true

  module _ (L : Ll1 G P) where
    after_rule :
        (A i : ℕ) (a : Alternative) (σ : List Symbol) (x : List Token)
        → alternative_of G A i ≡ some a → After (a.symbols ++ σ) x → After (nonterminal A ∷ σ) x
    after_rule A i a σ [] e h = tt
    after_rule A i a σ (token k p ∷ x) e h = first_rule G P L A i k a σ e h

    -- trees of α, and then what can come where σ is due
    pub after_trees :
        {α : List Symbol} {c : Trees} (σ : List Symbol) (x : List Token)
        → Fits G α c → After σ x → After (α ++ σ) (leaves c ++ x)
    after_trees σ x fits_nil h = h
    after_trees σ x (fits_leaf {k = k} r) h = same k
    after_trees σ x (fits_node {A = A} {i = i} {a = a} {σ = τ} {c = c} {f = f} e r₁ r₂) h =
        rw append_assoc (after_rule A i a (τ ++ σ) (leaves c ++ (leaves f ++ x)) e (after_trees (τ ++ σ) (leaves f ++ x) r₁ (after_trees σ x r₂ h)))

    -- the first leaf of trees of α is one that α can start with
    pub first_leaf :
        {α : List Symbol} {c : Trees} (k p : ℕ) (l : List Token)
        → Fits G α c → leaves c ≡ token k p ∷ l → first G P α k ≡ true
    first_leaf k p l r e = let f = simp append-nil at (after_trees [] [] r tt) in rw e at f

    -- symbols of trees without a leaf may all be absent
    pub no_leaf : {α : List Symbol} {c : Trees} → Fits G α c → leaves c ≡ [] → all_nullable G α ≡ true
    no_leaf fits_nil e = refl
    no_leaf (fits_leaf r) e = clash cc
    no_leaf (fits_node {A = A} {i = i} {a = a} {c = c} {f = f} q r₁ r₂) e =
        let w = append_empty (leaves c) (leaves f) e in
        rw ((L.empty_only A i a q (no_leaf r₁ w.0)).2, no_leaf r₂ w.1)

    -- the next token tells the alternative taken
    pub chosen :
        (A i : ℕ) (a : Alternative) (σ : List Symbol) (c : Trees) (x z : List Token)
        → alternative_of G A i ≡ some a → Fits G a.symbols c → ((k : ℕ) → first G P σ k ≡ true → follows G P A k ≡ true)
        → After σ x → leaves c ++ x ≡ z → i ≡ choose P A z
    chosen A i a σ c x z e r o h q = by (leaves c) refl
      where
        absent : (x : List Token) → nullable G A ≡ true → After σ x → choose P A x ≡ 0
        absent [] n b = refl
        absent (token k p ∷ x) n b = rw (L.follow_tells A k n (o k b), choose)

        by : (l : List Token) → leaves c ≡ l → i ≡ choose P A z
        by [] s =
            let w = L.empty_only A i a e (no_leaf r s) in
            let v : x ≡ z = cc in
            w.0 ∙ sym (absent x w.2 h) ∙ ap (choose P A) v
        by (token k p ∷ l) s =
            let v : z ≡ token k p ∷ (l ++ x) = cc in
            rw (v, L.first_tells A i k a e (first_leaf k p l r s), choose)

    -- of two readings of α from the same tokens, both before what can come where σ is due, the trees and the rests are equal
    pub unique :
        {α : List Symbol} {c c' : Trees} (σ : List Symbol) (x y : List Token)
        → Fits G α c → Fits G α c' → leaves c ++ x ≡ leaves c' ++ y → Separated G P (α ++ σ) → After σ x → After σ y
        → (c ≡ c') × (x ≡ y)
    unique σ x y fits_nil fits_nil e o hx hy = (refl, e)
    unique σ x y (fits_leaf {p = p} {f = f} r) (fits_leaf {p = p'} {f = f'} r') e o hx hy =
        let q : p ≡ p' = cc in
        let t : leaves f ++ x ≡ leaves f' ++ y = cc in
        let w = unique σ x y r r' t o hx hy in
        (cc, w.1)
    unique σ x y (fits_node {A = A} {i = i} {a = a} {σ = τ} {c = c} {f = f} e₁ r₁ r₂) (fits_node {i = i'} {a = a'} {c = c'} {f = f'} e₁' r₁' r₂') e o hx hy =
        let t : leaves c ++ (leaves f ++ x) ≡ leaves c' ++ (leaves f' ++ y) = simp append_assoc at e in
        let bx = after_trees σ x r₂ hx in
        let by = after_trees σ y r₂' hy in
        let q : i ≡ i' = chosen A i a (τ ++ σ) c (leaves f ++ x) _ e₁ r₁ o.1 bx t ∙ sym (chosen A i' a' (τ ++ σ) c' (leaves f' ++ y) _ e₁' r₁' o.1 by refl) in
        let v : a' ≡ a = cc in
        let w₁ = unique (τ ++ σ) (leaves f ++ x) (leaves f' ++ y) r₁ (subst (λ s. Fits G s.symbols c') v r₁') t (separated_in G P L A i a (τ ++ σ) e₁ o) bx by in
        let w₂ = unique σ x y r₂ r₂' w₁.1 o.2 hx hy in
        (cc, w₂.1)
