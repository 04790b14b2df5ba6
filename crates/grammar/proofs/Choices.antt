-- A rule that is a choice of words: a word's alternative is its place among them.
-- Assumes nothing.
use mathlib.Core.Path.{◌≡◌, refl, ap}
use mathlib.Core.Bool.{Bool, true, false}
use mathlib.Core.List.{List, [], ◌∷◌, map}
use mathlib.Core.Option.{some}
use Prim.Native.Nat.{ℕ, suc}
use lib.Dec.{eqb}
use lib.ListN.{get_elem?}
use borrow.Author.Tests.{eqb-true}
use Rattle.ll1.specs.ParseTable.{find, member}
use Rattle.ll1.proofs.Basics.{clash}
use Rattle.grammar.specs.Notation.{t, plain, choice}

-- the place of a class among classes, from 0
abbrev pub place_in : List ℕ → ℕ → ℕ
place_in [] k = 0
place_in (j ∷ ks) k = elim (eqb j k) [ true ↦ 0 | false ↦ suc (place_in ks k) ]

-- the alternative at the place is the word
pub choice_at : (ks : List ℕ) (k : ℕ) → member k ks ≡ true → get_elem? (choice ks) (place_in ks k) ≡ some (plain (t k ∷ []))
choice_at [] k h = clash cc
choice_at (j ∷ ks) k h = by (eqb j k) refl (choice_at ks k)
  where
    by :
        (b : Bool) → eqb j k ≡ b → (member k ks ≡ true → get_elem? (choice ks) (place_in ks k) ≡ some (plain (t k ∷ [])))
        → get_elem? (choice (j ∷ ks)) (place_in (j ∷ ks) k) ≡ some (plain (t k ∷ []))
    by true e later = rw (e, place_in) (ap (λ i. some (plain (t i ∷ []))) (eqb-true j k e))
    by false e later = rw (e, place_in) (later (rw e at h))

-- and where each word is FIRST of its alternative, a token of the word tells that one
pub choice_told : (ks : List ℕ) (k : ℕ) → member k ks ≡ true → find (map (λ j. j ∷ []) ks) k ≡ some (place_in ks k)
choice_told [] k h = clash cc
choice_told (j ∷ ks) k h = by (eqb j k) refl (choice_told ks k)
  where
    by :
        (b : Bool) → eqb j k ≡ b → (member k ks ≡ true → find (map (λ j. j ∷ []) ks) k ≡ some (place_in ks k))
        → find (map (λ j. j ∷ []) (j ∷ ks)) k ≡ some (place_in (j ∷ ks) k)
    by true e later = rw (e, find, place_in)
    by false e later = rw (e, later (rw e at h), find, place_in)
