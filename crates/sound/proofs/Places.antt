-- The places of a source's tokens, and of the leaves of trees over them, are within the longest source.
-- Assumes nothing.
use mathlib.Core.Path.{◌≡◌}
use mathlib.Core.List.{List, [], ◌∷◌, ◌++◌}
use Prim.Native.Nat.{ℕ, zero, suc, ◌≤◌}
use native.Mathlib.Omega.{arith}
use lib.ListN.{length}
use Rattle.ll1.specs.Trees.{Token, token, Trees, nil, leaf, node, leaves}
use Rattle.grammar.specs.Source.{source_tokens}
use Rattle.grammar.proofs.SourceTokens.{Within, within_none, within_more, tokens_within_lem}
use Rattle.grammar.specs.Parts.{child, place_at}
use Rattle.answers.specs.Answer.{LONGEST}

-- ---- the tokens of a source

abbrev Placed : List Token → Type 0
Placed [] = Unit {0}
Placed (token k p ∷ ts) = (p ≤ LONGEST) × Placed ts

module _ (s : List ℕ) (short : length s ≤ LONGEST) where
  placed : {ts : List Token} → Within (length s) ts → Placed ts
  placed within_none = tt
  placed (within_more h more) = (omega arith, placed more)

  source_placed : Placed (source_tokens s)
  source_placed = placed (tokens_within_lem s)

-- ---- the leaves of trees

abbrev pub Bounded : Trees → Type 0
Bounded nil = Unit {0}
Bounded (leaf (token k p) f) = (p ≤ LONGEST) × Bounded f
Bounded (node A i c f) = Bounded c × Bounded f

parted : (ts us : List Token) → Placed (ts ++ us) → Placed ts × Placed us
parted [] us h = (tt, h)
parted (token k p ∷ ts) us h = let q = parted ts us h.1 in ((h.0, q.0), q.1)

bounded_leaves : (f : Trees) → Placed (leaves f) → Bounded f
bounded_leaves nil h = tt
bounded_leaves (leaf (token k p) f) h = (h.0, bounded_leaves f h.1)
bounded_leaves (node A i c f) h = let q = parted (leaves c) (leaves f) h in (bounded_leaves c q.0, bounded_leaves f q.1)

pub source_bounded : (s : List ℕ) (f : Trees) → length s ≤ LONGEST → leaves f ≡ source_tokens s → Bounded f
source_bounded s f short e = bounded_leaves f (rw e (source_placed s short))

-- ---- of their parts

pub place_le : (n : ℕ) (f : Trees) → Bounded f → place_at n f ≤ LONGEST
place_le n nil b = omega arith
place_le zero (leaf (token k p) f) b = b.0
place_le (suc n) (leaf (token k p) f) b = place_le n f b.1
place_le zero (node A i c f) b = omega arith
place_le (suc n) (node A i c f) b = place_le n f b.1

pub child_bounded : (n : ℕ) (f : Trees) → Bounded f → Bounded (child n f)
child_bounded n nil b = tt
child_bounded zero (leaf t f) b = tt
child_bounded (suc n) (leaf (token k p) f) b = child_bounded n f b.1
child_bounded zero (node A i c f) b = b.0
child_bounded (suc n) (node A i c f) b = child_bounded n f b.1
