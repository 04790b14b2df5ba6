-- Parts of a tree, by place among the trees beside one another, counted from 0; and small words for what rows say of them.
-- Assumes nothing.
use Rattle.std.specs.Prelude.{ℕ, zero, suc, Bool, true, false, eqb}
use Rattle.ll1.specs.Trees.{token, Trees, nil, leaf, node}

-- the trees under the n-th tree
abbrev pub child : ℕ → Trees → Trees
child n nil = nil
child zero (leaf t f) = nil
child (suc n) (leaf t f) = child n f
child zero (node A i c f) = c
child (suc n) (node A i c f) = child n f

-- the alternative that the n-th tree takes
abbrev pub chosen : ℕ → Trees → ℕ
chosen n nil = 0
chosen zero (leaf t f) = 0
chosen (suc n) (leaf t f) = chosen n f
chosen zero (node A i c f) = i
chosen (suc n) (node A i c f) = chosen n f

-- the n-th tree is of a part in square brackets, and the part is there
abbrev pub written : ℕ → Trees → Bool
written n f = eqb (chosen n f) 1

-- the place of the n-th tree, a leaf
abbrev pub place_at : ℕ → Trees → ℕ
place_at n nil = 0
place_at zero (leaf (token k p) f) = p
place_at (suc n) (leaf t f) = place_at n f
place_at zero (node A i c f) = 0
place_at (suc n) (node A i c f) = place_at n f

-- a mark is a place plus one; 0 is none
abbrev pub mark : ℕ → ℕ
mark p = suc p

-- the value, where the condition holds
abbrev pub when : Bool → ℕ → ℕ
when true n = n
when false n = 0
