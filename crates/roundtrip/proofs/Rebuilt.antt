-- Trees that fit symbols are told by their places, their alternatives and the trees under them, each by its position.
-- Assumes nothing.
use mathlib.Core.Path.{◌≡◌, refl, ap, sym, subst}
use mathlib.Core.List.{List, [], ◌∷◌}
use Prim.Native.Nat.{ℕ, suc}
use Rattle.ll1.specs.Trees.{token, Trees, nil, leaf, node, Symbol, terminal, nonterminal, Fits, fits_nil, fits_leaf, fits_node}
use Rattle.grammar.specs.Grammar.{rules}
use Rattle.grammar.specs.Parts.{child, chosen, place_at}

abbrev pub rebuilt : List Symbol → (place alternative : ℕ → ℕ) (under : ℕ → Trees) → Trees
rebuilt [] p i c = nil
rebuilt (terminal k ∷ σ) p i c = leaf (token k (p 0)) (rebuilt σ (λ n. p (suc n)) (λ n. i (suc n)) (λ n. c (suc n)))
rebuilt (nonterminal A ∷ σ) p i c = node A (i 0) (c 0) (rebuilt σ (λ n. p (suc n)) (λ n. i (suc n)) (λ n. c (suc n)))

-- trees from their own parts
abbrev pub anew : List Symbol → Trees → Trees
anew σ f = rebuilt σ (λ n. place_at n f) (λ n. chosen n f) (λ n. child n f)

is_anew : {σ : List Symbol} {f : Trees} → Fits rules σ f → f ≡ anew σ f
is_anew fits_nil = refl
is_anew (fits_leaf {k = k} {p = p} r) = ap (λ x. leaf (token k p) x) (is_anew r)
is_anew (fits_node {A = A} {i = i} {c = c} e r₁ r₂) = ap (λ x. node A i c x) (is_anew r₂)

-- so what holds of them made anew holds of them
pub by_parts_lem : (P : Trees → Type 0) {σ : List Symbol} {f : Trees} → Fits rules σ f → P (anew σ f) → P f
by_parts_lem P h p = subst P (sym (is_anew h)) p
