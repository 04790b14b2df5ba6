-- Places in a list, and how many numbers of a range are picked.
use mathlib.Core.Path.{◌≡◌, refl, sym, ap, ◌∙◌}
use mathlib.Core.Bool.{Bool, true, false, not, cond, ◌&&◌, ◌||◌, or-true, false≢true}
use mathlib.Core.Logic.{◌⊎◌, inl, inr}
use mathlib.Core.List.{List, [], ◌∷◌, ◌++◌}
use Prim.Native.Nat.{ℕ, zero, suc, ◌+◌, ◌≤◌, ◌<◌}
use native.Mathlib.Omega.{arith}
use borrow.Author.Tests.{eq-eqb, eqb-true, not-true}
use lib.Dec.{eqb}
use lib.ListN.{length, get_or}
use Rattle.numbers.specs.Numbers.{picked, mem, distinct}
use Rattle.numbers.proofs.Lists.{mem_append, mem_get_or}
use Rattle.numbers.proofs.Ranges.{and_yes, pick_none, pick_same, pick_inside, count_both, count_or}
use Rattle.circles.proofs.Reaching.{or_yes, or_first}

-- ---- places in a list

-- what stands in a list has a place there
pub place_of : (l : List ℕ) (a : ℕ) → mem a l ≡ true → (i : ℕ) × (i < length l) × (get_or l i 0 ≡ a)
unfolding mem
place_of [] a e = absurd (false≢true e)
place_of (q ∷ l) a e = go (or_yes (eqb a q) (mem a l) e) (place_of l a)
  where
    go : (eqb a q ≡ true) ⊎ (mem a l ≡ true)
        → (mem a l ≡ true → (i : ℕ) × (i < length l) × (get_or l i 0 ≡ a))
        → (i : ℕ) × (i < length (q ∷ l)) × (get_or (q ∷ l) i 0 ≡ a)
    go (inl f) ih = (0, omega arith, sym (eqb-true a q f))
    go (inr f) ih = let u = ih f in (suc u.0, omega (arith, u.1), u.2)

-- and one only, where nothing stands twice
pub distinct_at : (l : List ℕ) → distinct l ≡ true → (i j : ℕ) → i < j → j < length l → get_or l i 0 ≡ get_or l j 0 → ⊥
unfolding distinct
distinct_at [] d i j h g e = absurd (omega arith)
distinct_at (q ∷ l) d i zero h g e = absurd (omega arith)
distinct_at (q ∷ l) d zero (suc j) h g e =
    let z = and_yes (not (mem q l)) (distinct l) d in
    false≢true (sym (not-true (mem q l) z.0) ∙ ap (λ (x : ℕ). mem x l) e ∙ mem_get_or l j (omega arith))
distinct_at (q ∷ l) d (suc i) (suc j) h g e =
    let z = and_yes (not (mem q l)) (distinct l) d in
    distinct_at l z.1 i j (omega arith) (omega arith) e

pub distinct_append : (l m : List ℕ) → distinct l ≡ true → distinct m ≡ true → ((a : ℕ) → mem a l ≡ true → mem a m ≡ false) → distinct (l ++ m) ≡ true
unfolding distinct mem
distinct_append [] m d e h = e
distinct_append (q ∷ l) m d e h =
    let z = and_yes (not (mem q l)) (distinct l) d in
    rw (
      mem_append q l m,
      not-true (mem q l) z.0,
      h q (or_first (eqb q q) (mem q l) (eq-eqb q q refl)),
      distinct_append l m z.1 e (λ a f. h a (rw (f, or-true (eqb a q)))),
    )

-- ---- numbers picked out of a range

-- the last of m + 1 numbers
pub pick_last : (p : ℕ → Bool) (m n : ℕ) → picked p n (suc m) ≡ picked p n m ++ cond (p (n + m)) ((n + m) ∷ []) []
unfolding picked
pick_last p zero n = let e : n + 0 ≡ n = omega arith in rw e
pick_last p (suc m) n = go (p n) refl (pick_last p m (n + 1))
  where
    e : n + suc m ≡ n + 1 + m
    e = omega arith

    go : (b : Bool) → p n ≡ b → picked p (n + 1) (suc m) ≡ picked p (n + 1) m ++ cond (p (n + 1 + m)) ((n + 1 + m) ∷ []) []
        → picked p n (suc (suc m)) ≡ picked p n (suc m) ++ cond (p (n + suc m)) ((n + suc m) ∷ []) []
    go true f ih = rw (f, e) (ap (λ (l : List ℕ). n ∷ l) ih)
    go false f ih = rw (f, e) ih

-- all are picked
pub count_all : (p : ℕ → Bool) (m n : ℕ) → ((k : ℕ) → n ≤ k → k < n + m → p k ≡ true) → length (picked p n m) ≡ m
count_all p m n h = omega (arith, count_both p m n, ap length (pick_none (λ k. not (p k)) m n (λ k l g. rw (h k l g))))

-- fewer are picked by p than by q: q holds of all that p holds of, and of j
pub count_fewer : (p q : ℕ → Bool) (m n j : ℕ) → ((k : ℕ) → n ≤ k → k < n + m → p k ≡ true → q k ≡ true)
    → n ≤ j → j < n + m → p j ≡ false → q j ≡ true → length (picked p n m) < length (picked q n m)
count_fewer p q m n j h l g e f =
    omega (
      arith,
      count_or p rest m n,
      ap length (pick_same (λ k. p k || rest k) q m n (λ k u v. whole (p k) (q k) (h k u v))),
      ap length (pick_none (λ k. p k && rest k) m n (λ k u v. none (p k) (q k))),
      (place_of (picked rest n m) j (pick_inside rest j m n l g ∙ rw (e, f))).1,
    )
  where
    rest : ℕ → Bool
    rest k = q k && not (p k)

    whole : (s t : Bool) → (s ≡ true → t ≡ true) → (s || t && not s) ≡ t
    whole true t i = sym (i refl)
    whole false true i = refl
    whole false false i = refl

    none : (s t : Bool) → (s && (t && not s)) ≡ false
    none true true = refl
    none true false = refl
    none false t = refl
