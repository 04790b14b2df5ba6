-- Booleans, options and lists: the small facts that the theory uses.
-- Assumes nothing.
use mathlib.Core.Path.{◌≡◌, refl, ap, sym, subst}
use mathlib.Core.List.{List, [], ◌∷◌, ◌++◌}
use mathlib.Core.Option.{Option, none, some}
use mathlib.Core.Bool.{Bool, true, false, ◌&&◌, ◌||◌, not, and-eq-true_iff, or_assoc}
use mathlib.Core.Logic.{◌⊎◌, inl, inr}
use Prim.Native.Nat.{ℕ, zero, suc, ◌<◌}
use native.Mathlib.Omega.{arith}
use lib.Dec.{eqb}
use lib.ListN.{length, get_or, get_elem?}
use borrow.Author.Tests.{eqb-true, eq-eqb}
use Rattle.ll1.specs.ParseTable.{member, find}
use Rattle.ll1.specs.Test.{all, all_at, all_pairs, joined, keep_if, is_some, is_place}

-- what follows from 0 ≡ 1: with `cc` for its argument, whatever two constructors that clash allow
pub clash {ℓ} : {P : Type ℓ} → ◌≡◌ {A = ℕ} 0 1 → P
clash h = absurd (omega arith)

-- ---- Booleans

pub both : (a b : Bool) → a && b ≡ true → (a ≡ true) × (b ≡ true)
both a b h = (and-eq-true_iff a b).0 h

pub either : (a b : Bool) → a || b ≡ true → (a ≡ true) ⊎ (b ≡ true)
either true b h = inl refl
either false b h = inr h

pub or_right : (a b : Bool) → b ≡ true → a || b ≡ true
or_right true b h = refl
or_right false b h = h

-- `not a || b` is a test that a implies b
pub implied : (a b : Bool) → not a || b ≡ true → a ≡ true → b ≡ true
implied true b h e = h
implied false b h e = clash cc

pub not_true : (b : Bool) → (b ≡ true → ⊥) → b ≡ false
not_true true h = absurd (h refl)
not_true false h = refl

pub same : (n : ℕ) → eqb n n ≡ true
same n = eq-eqb n n refl

-- ---- options

pub is_none : (o : Option ℕ) → not (is_some o) ≡ true → o ≡ none
is_none none h = refl
is_none (some j) h = clash cc

pub is_place_lem : (o : Option ℕ) (i : ℕ) → is_place o i ≡ true → o ≡ some i
is_place_lem none i h = clash cc
is_place_lem (some j) i h = ap (λ (n : ℕ). some n) (eqb-true j i h)

-- ---- lists

pub append_empty {ℓ} : {A : Type ℓ} (s t : List A) → s ++ t ≡ [] → (s ≡ []) × (t ≡ [])
append_empty [] t e = (refl, e)
append_empty (x ∷ s) t e = clash cc

module _ {A : Type 0} where
  pub all_at_at : (p : ℕ → A → Bool) (l : List A) (i : ℕ) (x : A) → all_at p l ≡ true → get_elem? l i ≡ some x → p i x ≡ true
  all_at_at p [] i x h e = clash cc
  all_at_at p (y ∷ l) zero x h e = let q : y ≡ x = cc in subst (λ a. p 0 a ≡ true) q (both (p 0 y) _ h).0
  all_at_at p (y ∷ l) (suc i) x h e = all_at_at (λ i. p (suc i)) l i x (both (p 0 y) _ h).1 e

module _ {A B : Type 0} (p : A → B → Bool) where
  -- past both ends the test is of the defaults
  pub all_pairs_get_or :
      (k : List A) (l : List B) (i : ℕ) (x : A) (y : B)
      → all_pairs p k l ≡ true → p x y ≡ true → p (get_or k i x) (get_or l i y) ≡ true
  all_pairs_get_or [] [] i x y h q = q
  all_pairs_get_or [] (b ∷ l) i x y h q = clash cc
  all_pairs_get_or (a ∷ k) [] i x y h q = clash cc
  all_pairs_get_or (a ∷ k) (b ∷ l) zero x y h q = (both (p a b) _ h).0
  all_pairs_get_or (a ∷ k) (b ∷ l) (suc i) x y h q = all_pairs_get_or k l i x y (both (p a b) _ h).1 q

  pub all_pairs_at :
      (k : List A) (l : List B) (i : ℕ) (x : A) (y : B)
      → all_pairs p k l ≡ true → i < length k → p (get_or k i x) (get_or l i y) ≡ true
  all_pairs_at [] l i x y h q = absurd (omega arith)
  all_pairs_at (a ∷ k) [] i x y h q = clash cc
  all_pairs_at (a ∷ k) (b ∷ l) zero x y h q = (both (p a b) _ h).0
  all_pairs_at (a ∷ k) (b ∷ l) (suc i) x y h q = all_pairs_at k l i x y (both (p a b) _ h).1 (omega arith)

-- ---- sets of classes

pub all_member : (p : ℕ → Bool) (l : List ℕ) (k : ℕ) → all p l ≡ true → member k l ≡ true → p k ≡ true
all_member p [] k h e = clash cc
all_member p (x ∷ l) k h e = by (all_member p l k) (either (eqb x k) (member k l) e)
  where
    by : (all p l ≡ true → member k l ≡ true → p k ≡ true) → (eqb x k ≡ true) ⊎ (member k l ≡ true) → p k ≡ true
    by r (inl q) = subst (λ a. p a ≡ true) (eqb-true x k q) (both (p x) _ h).0
    by r (inr q) = r (both (p x) _ h).1 q

pub member_append : (k : ℕ) (a b : List ℕ) → member k (a ++ b) ≡ member k a || member k b
member_append k [] b = refl
member_append k (x ∷ a) b = rw (member_append k a b) (sym (or_assoc (eqb x k) (member k a) (member k b)))

pub member_keep : (k : ℕ) (b : Bool) (l : List ℕ) → member k (keep_if b l) ≡ b && member k l
member_keep k true l = refl
member_keep k false l = refl

-- a class has a place exactly when some set has it
pub find_joined : (l : List (List ℕ)) (k : ℕ) → is_some (find l k) ≡ member k (joined l)
find_joined [] k = refl
find_joined (f ∷ l) k = rw (member_append k f (joined l), ← find_joined l k) (by (member k f) (find l k) refl refl)
  where
    by : (b : Bool) (o : Option ℕ) → member k f ≡ b → find l k ≡ o → is_some (find (f ∷ l) k) ≡ member k f || is_some (find l k)
    by true o p q = rw (p, find)
    by false none p q = rw (p, q, find)
    by false (some i) p q = rw (p, q, find)

-- and its place is of a set that has it
pub find_member : (l : List (List ℕ)) (k i : ℕ) → find l k ≡ some i → member k (get_or l i []) ≡ true
find_member [] k i e = clash cc
find_member (f ∷ l) k i e = by (find_member l k) (member k f) (find l k) refl refl
  where
    by :
        ((j : ℕ) → find l k ≡ some j → member k (get_or l j []) ≡ true) → (b : Bool) (o : Option ℕ) → member k f ≡ b
        → find l k ≡ o → member k (get_or (f ∷ l) i []) ≡ true
    by r true o p q =
        let w : find (f ∷ l) k ≡ some 0 = rw (p, find) in
        let v : 0 ≡ i = cc in
        subst (λ n. member k (get_or (f ∷ l) n []) ≡ true) v p
    by r false none p q = let w : find (f ∷ l) k ≡ none = rw (p, q, find) in clash cc
    by r false (some j) p q =
        let w : find (f ∷ l) k ≡ some (suc j) = rw (p, q, find) in
        let v : suc j ≡ i = cc in
        subst (λ n. member k (get_or (f ∷ l) n []) ≡ true) v (r j q)
