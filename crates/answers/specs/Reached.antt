-- A walk down a derivation, with what `drafts_of` tells of where it has come: the parent, the next row's number, the rules before;
-- and rows that are found by their places.
-- Assumes nothing.
use Rattle.std.specs.Prelude.{◌≡◌, List, [], ◌∷◌, ◌++◌, ℕ, suc, ◌+◌, length, get_or}
use Rattle.ll1.specs.Trees.{Token, Trees, nil, leaf, node}
use Rattle.answers.specs.Rows.{Draft, rules_in, own_rows, parent_in, drafts_of}
use Rattle.answers.specs.Text.{row_first_at}

module _ (value : ℕ → ℕ) where
  -- the rows of a node over the trees c, its own and those under it
  abbrev pub node_rows : ℕ → ℕ → Trees → ℕ → ℕ → ℕ → List Draft
  node_rows A i c parent at n =
      let own = own_rows value parent at n A i c in
      own ++ drafts_of value c (parent_in value parent at own) (at + length own) n

  -- the trees f stand somewhere in the tree, and their first row is to be row `at` of the derivation's
  pub data Reached (tree : Trees) : Trees → (parent at rules : ℕ) → Type 0 where
    whole : Reached tree tree 0 0 0
    past : {t : Token} {f : Trees} {parent at n : ℕ} → Reached tree (leaf t f) parent at n → Reached tree f parent at n
    under :
        {A i : ℕ} {c f : Trees} {parent at n : ℕ}
        → Reached tree (node A i c f) parent at n
        → Reached tree c (parent_in value parent at (own_rows value parent at n A i c)) (at + length (own_rows value parent at n A i c)) n
    beside :
        {A i : ℕ} {c f : Trees} {parent at n : ℕ}
        → Reached tree (node A i c f) parent at n
        → Reached tree f parent (at + length (node_rows A i c parent at n)) (n + rules_in (node A i c nil))

-- at these places the rows from row k on are found, one after another
pub data FoundFrom (rows : List (List ℕ)) : ℕ → List ℕ → Type 0 where
  found_none : {k : ℕ} → FoundFrom rows k []
  found_more : {k p : ℕ} {ps : List ℕ} → row_first_at rows p ≡ get_or rows k [] → FoundFrom rows (suc k) ps → FoundFrom rows k (p ∷ ps)
