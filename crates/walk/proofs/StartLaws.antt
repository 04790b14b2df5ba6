-- What a class tells that is one of some words, or none of them.
-- Assumes nothing.
use Prim.Native.Nat.{ℕ, zero, suc}
use mathlib.Core.Path.{◌≡◌, refl, sym, ◌∙◌, subst}
use mathlib.Core.Bool.{Bool, true, false, ◌||◌}
use mathlib.Core.List.{List, [], ◌∷◌, ◌++◌}
use mathlib.Core.Option.{Option, none, some}
use mathlib.Core.Logic.{◌⊎◌, inl, inr}
use lib.Dec.{eqb}
use borrow.Author.Tests.{eqb-true, eqb-false, ne_eqb}
use Rattle.ll1.specs.ParseTable.{member, find}
use Rattle.ll1.specs.Test.{joined, is_some}
use Rattle.ll1.proofs.Basics.{clash, either, member_append, find_joined}
use Rattle.walk.specs.Starts.{or_one_of, is_one_of}

-- ---- one of some words

-- Q holds of each of them
abbrev pub Each : (ℕ → Type 0) → List ℕ → Type 0
Each Q [] = Unit {0}
Each Q (x ∷ l) = Q x × Each Q l

or_one : (Q : ℕ → Type 0) (b : Bool) (k : ℕ) (l : List ℕ) → (b ≡ true → Q k) → Each Q l → or_one_of b k l ≡ true → Q k
or_one Q b k [] f q e = f e
or_one Q b k (x ∷ l) f q e = or_one Q (b || eqb k x) k l (λ h. by (either b (eqb k x) h)) q.1 e
  where
    by : (b ≡ true) ⊎ (eqb k x ≡ true) → Q k
    by (inl h) = f h
    by (inr h) = subst Q (sym (eqb-true k x h)) q.0

pub one_of : (Q : ℕ → Type 0) (k : ℕ) (l : List ℕ) → Each Q l → is_one_of k l ≡ true → Q k
one_of Q k [] q e = clash cc
one_of Q k (x ∷ l) q e = or_one Q (eqb k x) k l (λ h. subst Q (sym (eqb-true k x h)) q.0) q.1 e

-- ---- none of them

neither : (a b : Bool) → a || b ≡ false → (a ≡ false) × (b ≡ false)
neither true b h = clash cc
neither false b h = (refl, h)

or_none : (b : Bool) (k : ℕ) (l : List ℕ) → or_one_of b k l ≡ false → (b ≡ false) × (member k l ≡ false)
or_none b k [] e = (e, refl)
or_none b k (x ∷ l) e =
    let w = or_none (b || eqb k x) k l e in
    let v = neither b (eqb k x) w.0 in
    (v.0, rw (ne_eqb x k (λ q. eqb-false k x v.1 (sym q)), w.1))

pub none_of_lem : (k : ℕ) (l : List ℕ) → is_one_of k l ≡ false → member k l ≡ false
none_of_lem k [] e = refl
none_of_lem k (x ∷ l) e =
    let w = or_none (eqb k x) k l e in
    rw (ne_eqb x k (λ q. eqb-false k x w.0 (sym q)), w.1)

pub none_append : (k : ℕ) (a b : List ℕ) → member k a ≡ false → member k b ≡ false → member k (a ++ b) ≡ false
none_append k a b p q = rw (member_append k a b, p, q)

-- ---- what a token tells

-- no alternative
pub tells_none : (l : List (List ℕ)) (k : ℕ) → member k (joined l) ≡ false → find l k ≡ none
tells_none l k m = by (find l k) refl
  where
    by : (o : Option ℕ) → find l k ≡ o → find l k ≡ none
    by none q = q
    by (some i) q = clash (let w : is_some (find l k) ≡ true = rw q in let v = find_joined l k in cc)

-- the classes of all sets but the i-th
abbrev pub others : ℕ → List (List ℕ) → List ℕ
others i [] = []
others zero (f ∷ l) = joined l
others (suc i) (f ∷ l) = f ++ others i l

-- alternative i or none
pub tells_only : (i : ℕ) (l : List (List ℕ)) (k : ℕ) → member k (others i l) ≡ false → (find l k ≡ some i) ⊎ (find l k ≡ none)
tells_only i [] k m = inr refl
tells_only zero (f ∷ l) k m = by (member k f) refl
  where
    by : (b : Bool) → member k f ≡ b → (find (f ∷ l) k ≡ some 0) ⊎ (find (f ∷ l) k ≡ none)
    by true q = inl (rw (q, find))
    by false q = inr (rw (q, tells_none l k m, find))
tells_only (suc i) (f ∷ l) k m =
    let w = neither (member k f) (member k (others i l)) (sym (member_append k f (others i l)) ∙ m) in
    by w.0 (tells_only i l k w.1)
  where
    by : member k f ≡ false → (find l k ≡ some i) ⊎ (find l k ≡ none) → (find (f ∷ l) k ≡ some (suc i)) ⊎ (find (f ∷ l) k ≡ none)
    by q (inl e) = inl (rw (q, e, find))
    by q (inr e) = inr (rw (q, e, find))
