-- Some elements of a list, in their order; and places that stand after one.
-- Assumes nothing.
use Rattle.std.specs.Prelude.{List, [], ◌∷◌, ℕ, ◌<◌}

-- the first list is the second without some of its elements
pub data Sublist {X : Type 0} : List X → List X → Type 0 where
  sublist_none : Sublist [] []
  sublist_skip : {q : X} {ps qs : List X} → Sublist ps qs → Sublist ps (q ∷ qs)
  sublist_take : {q : X} {ps qs : List X} → Sublist ps qs → Sublist (q ∷ ps) (q ∷ qs)

-- each is more than p
pub data Later (p : ℕ) : List ℕ → Type 0 where
  later_none : Later p []
  later_more : {q : ℕ} {ps : List ℕ} → p < q → Later p ps → Later p (q ∷ ps)
