-- What the trees of a phrase keep for its row, in order.
-- Assumes nothing.
use Rattle.std.specs.Prelude.{ℕ, ◌+◌, ◌*◌, cond, ◌||◌, List, [], ◌∷◌, ◌++◌, eqb}
use Rattle.lexemes.specs.Classes.{NAME, HEX, DECIMAL}
use Rattle.rows.specs.Sizes.{size_and_display}
use Rattle.ll1.specs.Trees.{token, Trees, nil, leaf, node}
use Rattle.grammar.specs.Rules.{<truth>, <option_flags>, <fl>, <numeric_fl>, <name_or_number>}
use Rattle.grammar.specs.Parts.{child, place_at}
use Rattle.grammar.specs.Parts.{mark, when}
use Rattle.grammar.specs.Flags.{flags, size_in, display_in}

-- how many entries a phrase keeps at most
abbrev pub KEPT : ℕ
KEPT = 12

-- a token keeps the mark of a name or a number
abbrev pub leaf_entries : ℕ → ℕ → List ℕ
leaf_entries k p = cond (eqb k NAME || (eqb k DECIMAL || eqb k HEX)) (mark p ∷ []) []

-- a tree of rule A keeps, by the alternative taken and the trees under it, which keep `inner`:
unfoldable pub node_entries : ℕ → ℕ → Trees → List ℕ → List ℕ
node_entries A i c inner =
    -- FL: its flags; of a numeric besides 256 times its size and display
    cond (eqb A <fl>) (flags c ∷ [])
    (cond (eqb A <numeric_fl>) ((flags c + 256 * size_and_display (size_in c) (display_in c)) ∷ [])
    -- TRUE or FALSE: 2 or 1
    (cond (eqb A <truth>) (cond (eqb i 0) 2 1 ∷ [])
    -- an option's flags: the mark of DEFAULT, or 0
    (cond (eqb A <option_flags>) (when (eqb i 1) (mark (place_at 0 c)) ∷ [])
    -- NAME or N: the mark of a name or 0, and that of a number or 0
    (cond (eqb A <name_or_number>) (when (eqb i 0) (mark (place_at 0 c)) ∷ when (eqb i 1) (mark (place_at 0 (child 0 c))) ∷ [])
    -- any other: what they keep
    inner))))

-- a part that is absent keeps 0
unfoldable pub entries : Trees → List ℕ
entries nil = []
entries (leaf (token k p) f) = leaf_entries k p ++ entries f
entries (node A i nil f) = 0 ∷ entries f
entries (node A i (leaf t g) f) = node_entries A i (leaf t g) (entries (leaf t g)) ++ entries f
entries (node A i (node B j b g) f) = node_entries A i (node B j b g) (entries (node B j b g)) ++ entries f
