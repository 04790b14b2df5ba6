-- A derivation that is nowhere too deep is one that fits the grammar and has no leaf too deep; and the trees over a shape that is one.
-- Assumes nothing.
use mathlib.Core.Path.{◌≡◌, refl}
use mathlib.Core.List.{List, [], ◌∷◌, ◌++◌}
use mathlib.Core.Bool.{Bool, true, false, ◌||◌}
use Prim.Native.Nat.{ℕ, ◌≤◌}
use lib.Dec.{ltb}
use borrow.Author.Tests.{le-ltb, ltb-false}
use Rattle.ll1.specs.Trees.{Trees, Symbol, Fits, fits_nil, fits_leaf, fits_node, Depth, depth, deeper, depths}
use Rattle.ll1.specs.Verdict.{Allowed}
use Rattle.ll1.proofs.Basics.{clash}
use Rattle.ll1.proofs.Equations.{allowed_append}
use Rattle.grammar.specs.Grammar.{rules}
use Rattle.grammar.specs.Derivation.{too_deep}
use Rattle.formulas.specs.Fitted.{Fitted, f_nil, f_leaf, f_node}
use Rattle.formulas.specs.Shapes.{Shape, flat, read_sign, read_decimal, read_rule, read_hex, Over, over_nil, over_leaf, over_node}

-- ---- it fits, and is nowhere too deep

pub to_fits : {d : Depth} {σ : List Symbol} {f : Trees} → Fitted d σ f → Fits rules σ f
to_fits f_nil = fits_nil
to_fits (f_leaf u h) = fits_leaf (to_fits h)
to_fits (f_node e h₁ h₂) = fits_node e (to_fits h₁) (to_fits h₂)

both_allowed : (ds es : List Depth) → Allowed too_deep ds → Allowed too_deep es → Allowed too_deep (ds ++ es)
both_allowed [] es h k = k
both_allowed (d ∷ ds) es h k = (h.0, both_allowed ds es h.1 k)

pub to_allowed : {d : Depth} {σ : List Symbol} {f : Trees} → Fitted d σ f → Allowed too_deep (depths rules d f)
to_allowed f_nil = tt
to_allowed (f_leaf u h) = (u, to_allowed h)
to_allowed {d} (f_node {a = a} {c = c} {f = f} e h₁ h₂) = rw e (both_allowed (depths rules (deeper d a.opens) c) (depths rules d f) (to_allowed h₁) (to_allowed h₂))

-- ---- and the other way round

pub fitted : {d : Depth} {σ : List Symbol} {f : Trees} → Fits rules σ f → Allowed too_deep (depths rules d f) → Fitted d σ f
fitted fits_nil h = f_nil
fitted (fits_leaf r) h = f_leaf h.0 (fitted r h.1)
fitted {d} (fits_node {A = A} {i = i} {a = a} {c = c} {f = f} e r₁ r₂) h =
    let q = allowed_append too_deep (depths rules (deeper d a.opens) c) (depths rules d f) (rw e at h) in
    f_node e (fitted r₁ q.0) (fitted r₂ q.1)

-- ---- depths

pub fine : (c g : ℕ) → c ≤ 16 → g ≤ 32 → too_deep (depth c g) ≡ false
fine c g h l = rw (le-ltb 16 c h, le-ltb 32 g l)

pub not_deep : (c g : ℕ) → too_deep (depth c g) ≡ false → (c ≤ 16) × (g ≤ 32)
not_deep c g h = let q = by (ltb 16 c) (ltb 32 g) h in (ltb-false 16 c q.0, ltb-false 32 g q.1)
  where
    by : (a b : Bool) → a || b ≡ false → (a ≡ false) × (b ≡ false)
    by true b e = clash cc
    by false b e = (refl, e)

-- ---- a tree over a shape fits where the shape does

pub over_fitted : {t : List ℕ} {d : Depth} {σ : List Symbol} {f : Trees} {x : Shape} → Over t f x → Fitted d σ (flat x) → Fitted d σ f
over_fitted over_nil f_nil = f_nil
over_fitted (over_leaf read_sign o) (f_leaf u h) = f_leaf u (over_fitted o h)
over_fitted (over_leaf (read_decimal v) o) (f_leaf u h) = f_leaf u (over_fitted o h)
over_fitted (over_leaf (read_rule v w) o) (f_leaf u h) = f_leaf u (over_fitted o h)
over_fitted (over_leaf (read_hex v w) o) (f_leaf u h) = f_leaf u (over_fitted o h)
over_fitted (over_node o₁ o₂) (f_node e h₁ h₂) = f_node e (over_fitted o₁ h₁) (over_fitted o₂ h₂)
