-- What a token tells of a rule, where the rule's FIRST sets are written out.
-- Assumes nothing.
use mathlib.Core.Path.{◌≡◌, refl, sym}
use mathlib.Core.List.{List, [], ◌∷◌}
use mathlib.Core.Option.{none, some}
use mathlib.Core.Bool.{Bool, true, false}
use mathlib.Core.Logic.{◌⊎◌, inl, inr, ◌≢◌}
use Prim.Native.Nat.{ℕ}
use borrow.Author.Tests.{ne_eqb}
use Rattle.ll1.specs.ParseTable.{member, find}

pub member_not : (k x : ℕ) (l : List ℕ) → k ≢ x → member k l ≡ false → member k (x ∷ l) ≡ false
member_not k x l h m = rw (ne_eqb x k (λ q. h (sym q)), m)

pub find_none : (f : List ℕ) (l : List (List ℕ)) (k : ℕ) → member k f ≡ false → find l k ≡ none → find (f ∷ l) k ≡ none
find_none f l k m e = rw (m, e, find)

-- one set: its place or none
pub find_one : (f : List ℕ) (k : ℕ) → (find (f ∷ []) k ≡ some 0) ⊎ (find (f ∷ []) k ≡ none)
find_one f k = by (member k f) refl
  where
    by : (b : Bool) → member k f ≡ b → (find (f ∷ []) k ≡ some 0) ⊎ (find (f ∷ []) k ≡ none)
    by true e = inl (rw (e, find))
    by false e = inr (rw (e, find))

-- two sets, and the class is not in the first
pub find_second : (f g : List ℕ) (k : ℕ) → member k f ≡ false → (find (f ∷ g ∷ []) k ≡ some 1) ⊎ (find (f ∷ g ∷ []) k ≡ none)
find_second f g k m = by (find_one g k)
  where
    by : (find (g ∷ []) k ≡ some 0) ⊎ (find (g ∷ []) k ≡ none) → (find (f ∷ g ∷ []) k ≡ some 1) ⊎ (find (f ∷ g ∷ []) k ≡ none)
    by (inl e) = inl (rw (m, e, find))
    by (inr e) = inr (rw (m, e, find))
