-- Numbers picked out of a range: which, how many, in which order, and the first.
use mathlib.Core.Path.{◌≡◌, refl, sym, ap, ◌∙◌}
use mathlib.Core.Bool.{Bool, true, false, not, cond, ◌&&◌, ◌||◌, true≢false}
use mathlib.Core.List.{List, [], ◌∷◌, head_d}
use Prim.Native.Nat.{ℕ, zero, suc, ◌+◌, ◌-◌, ◌≤◌, ◌<◌}
use native.Mathlib.Nat.{zero-add, suc-add, add-zero}
use native.Mathlib.Numerals.{one-add}
use native.Mathlib.Omega.{arith}
use borrow.Author.Tests.{eq-eqb, ne_eqb, eqb-true, eqb-false, leb-true, leb-false, ltb-true, ltb-false}
use lib.Dec.{eqb, leb, ltb}
use lib.ListN.{length, get_or}
use Rattle.numbers.specs.Numbers.{picked, mem, distinct}

-- ---- tests

pub and_yes : (a b : Bool) → (a && b) ≡ true → (a ≡ true) × (b ≡ true)
and_yes true b e = (refl, e)
and_yes false b e = absurd (true≢false (sym e))

pub or_no : (a b : Bool) → (a || b) ≡ false → (a ≡ false) × (b ≡ false)
or_no true b e = absurd (true≢false e)
or_no false b e = (refl, e)

-- 1 for true
abbrev pub one : Bool → ℕ
one true = 1
one false = 0

one_not : (b : Bool) → one b + one (not b) ≡ 1
one_not true = refl
one_not false = refl

one_or : (a b : Bool) → one (a || b) + one (a && b) ≡ one a + one b
one_or true b = omega arith
one_or false b = omega arith

-- ---- what is picked and what is not

cond_length : (b : Bool) (n : ℕ) (l : List ℕ) → length (cond b (n ∷ l) l) ≡ one b + length l
cond_length true n l = sym (one-add (length l))
cond_length false n l = sym (zero-add (length l))

module _ (p : ℕ → Bool) where
  pub pick_yes : (n m : ℕ) → p n ≡ true → picked p n (suc m) ≡ n ∷ picked p (n + 1) m
  unfolding picked
  pick_yes n m e = rw e

  pub pick_no : (n m : ℕ) → p n ≡ false → picked p n (suc m) ≡ picked p (n + 1) m
  unfolding picked
  pick_no n m e = rw e

  -- the first d numbers are not picked
  pub pick_skip : (d n m : ℕ) → ((k : ℕ) → n ≤ k → k < n + d → p k ≡ false) → picked p n (d + m) ≡ picked p (n + d) m
  pick_skip zero n m h = rw (zero-add m, add-zero n)
  pick_skip (suc d) n m h =
      let e : n + 1 + d ≡ n + suc d = omega arith in
      rw (suc-add d m, ← e) (pick_no n (d + m) (h n (omega arith) (omega arith)) ∙ pick_skip d (n + 1) m (λ k l g. h k (omega arith) (omega arith)))

  pub pick_none : (m n : ℕ) → ((k : ℕ) → n ≤ k → k < n + m → p k ≡ false) → picked p n m ≡ []
  unfolding picked
  pick_none zero n h = refl
  pick_none (suc m) n h = pick_no n m (h n (omega arith) (omega arith)) ∙ pick_none m (n + 1) (λ k l g. h k (omega arith) (omega arith))

  -- ---- how many are picked

  pub count_none : (n : ℕ) → length (picked p n 0) ≡ 0
  unfolding picked
  count_none n = refl

  pub count_next : (n m : ℕ) → length (picked p n (suc m)) ≡ one (p n) + length (picked p (n + 1) m)
  unfolding picked
  count_next n m = cond_length (p n) n (picked p (n + 1) m)

  pub count_add : (m m' n : ℕ) → length (picked p n (m + m')) ≡ length (picked p n m) + length (picked p (n + m) m')
  count_add zero m' n = rw (zero-add m', add-zero n, count_none n) (sym (zero-add _))
  count_add (suc m) m' n =
      let e : n + 1 + m ≡ n + suc m = omega arith in
      rw (suc-add m m', ← e) (omega (arith, count_next n (m + m'), count_next n m, count_add m m' (n + 1)))

pub pick_same : (p q : ℕ → Bool) (m n : ℕ) → ((k : ℕ) → n ≤ k → k < n + m → p k ≡ q k) → picked p n m ≡ picked q n m
unfolding picked
pick_same p q zero n h = refl
pick_same p q (suc m) n h = rw (h n (omega arith) (omega arith), pick_same p q m (n + 1) (λ k l g. h k (omega arith) (omega arith)))

-- what is picked and what is not make the range
pub count_both : (p : ℕ → Bool) (m n : ℕ) → length (picked p n m) + length (picked (λ k. not (p k)) n m) ≡ m
count_both p zero n = omega (arith, count_none p n, count_none (λ k. not (p k)) n)
count_both p (suc m) n = omega (arith, count_next p n m, count_next (λ k. not (p k)) n m, count_both p m (n + 1), one_not (p n))

-- those that p or q holds of
pub count_or : (p q : ℕ → Bool) (m n : ℕ)
    → length (picked (λ k. p k || q k) n m) + length (picked (λ k. p k && q k) n m) ≡ length (picked p n m) + length (picked q n m)
count_or p q zero n = omega (arith, count_none (λ k. p k || q k) n, count_none (λ k. p k && q k) n, count_none p n, count_none q n)
count_or p q (suc m) n =
    omega (
      arith,
      count_next (λ k. p k || q k) n m,
      count_next (λ k. p k && q k) n m,
      count_next p n m,
      count_next q n m,
      one_or (p n) (q n),
      count_or p q m (n + 1),
    )

-- a single number
pub pick_this : (q n m : ℕ) → n ≤ q → q < n + m → picked (λ k. eqb k q) n m ≡ q ∷ []
pick_this q n m l h =
    let p : ℕ → Bool = λ k. eqb k q in
    let after : ℕ = n + m - (q + 1) in
    let split : m ≡ (q - n) + suc after = omega arith in
    let there : n + (q - n) ≡ q = omega arith in
    rw split
    (pick_skip p (q - n) n (suc after) (λ k g e. ne_eqb k q (λ f. omega arith))
    ∙ rw there (pick_yes p q after (eq-eqb q q refl) ∙ rw (pick_none p after (q + 1) (λ k g e. ne_eqb k q (λ f. omega arith)))))

pub pick_this_le : (q n m : ℕ) → length (picked (λ k. eqb k q) n m) ≤ 1
pick_this_le q n m = go (leb n q) refl (ltb q (n + m)) refl
  where
    out : (n ≤ q → n + m ≤ q) → length (picked (λ k. eqb k q) n m) ≤ 1
    out h = rw (pick_none (λ k. eqb k q) m n (λ k l g. ne_eqb k q (λ f. omega (arith, h (omega arith))))) (omega arith)

    go : (a : Bool) → leb n q ≡ a → (b : Bool) → ltb q (n + m) ≡ b → length (picked (λ k. eqb k q) n m) ≤ 1
    go true a true b = rw (pick_this q n m (leb-true n q a) (ltb-true q (n + m) b)) (omega arith)
    go true a false b = out (λ l. ltb-false q (n + m) b)
    go false a b c = out (λ l. absurd (omega (arith, leb-false n q a)))

-- ---- the first that is picked, d where there is none

pub record First (p : ℕ → Bool) (n m d r : ℕ) : Type 0 where
  pub high : r ≤ d
  pub on : r < d → n ≤ r
  pub holds : r < d → p r ≡ true
  pub least : (k : ℕ) → n ≤ k → k < r → k < n + m → p k ≡ false

pub first_picked : (p : ℕ → Bool) (m n d : ℕ) → ((k : ℕ) → n ≤ k → k < n + m → k < d) → First p n m d (head_d (picked p n m) d)
unfolding picked head_d
first_picked p zero n d h = record { high = omega arith; on = λ l. absurd (omega arith); holds = λ l. absurd (omega arith); least = λ k l g e. absurd (omega arith) }
first_picked p (suc m) n d h = go (p n) refl (first_picked p m (n + 1) d (λ k l g. h k (omega arith) (omega arith)))
  where
    go : (b : Bool) → p n ≡ b → First p (n + 1) m d (head_d (picked p (n + 1) m) d)
        → First p n (suc m) d (head_d (cond b (n ∷ picked p (n + 1) m) (picked p (n + 1) m)) d)
    go true e ih = record { high = omega (arith, h n (omega arith) (omega arith)); on = λ l. omega arith; holds = λ l. e; least = λ k l g f. absurd (omega arith) }
    go false e ih =
        record { high = ih.high; on = λ l. omega (arith, ih.on l); holds = ih.holds; least = λ k l g f. least k l g f (eqb k n) refl }
      where
        least : (k : ℕ) → n ≤ k → k < head_d (picked p (n + 1) m) d → k < n + suc m → (c : Bool) → eqb k n ≡ c → p k ≡ false
        least k l g f true c = ap p (eqb-true k n c) ∙ e
        least k l g f false c = ih.least k (omega (arith, eqb-false k n c)) g (omega arith)

-- ---- as a list: what stands in it, and in which order

-- nothing outside the range is picked
pub pick_outside : (p : ℕ → Bool) (k m n : ℕ) → (n ≤ k → n + m ≤ k) → mem k (picked p n m) ≡ false
unfolding mem picked
pick_outside p k zero n h = refl
pick_outside p k (suc m) n h = go (p n) (pick_outside p k m (n + 1) (λ l. omega (arith, h (omega arith))))
  where
    go : (b : Bool) → mem k (picked p (n + 1) m) ≡ false → mem k (cond b (n ∷ picked p (n + 1) m) (picked p (n + 1) m)) ≡ false
    go true e = rw (ne_eqb k n (λ f. omega (arith, h (omega arith))), e)
    go false e = e

-- inside it is what p holds of
pub pick_inside : (p : ℕ → Bool) (k m n : ℕ) → n ≤ k → k < n + m → mem k (picked p n m) ≡ p k
unfolding mem picked
pick_inside p k zero n l h = absurd (omega arith)
pick_inside p k (suc m) n l h = go (eqb k n) refl (p n) refl (λ f. pick_inside p k m (n + 1) (omega (arith, f)) (omega arith))
  where
    more : List ℕ
    more = picked p (n + 1) m

    go : (c : Bool) → eqb k n ≡ c → (b : Bool) → p n ≡ b → ((k ≡ n → ⊥) → mem k more ≡ p k) → mem k (cond b (n ∷ more) more) ≡ p k
    go true c true b ih = rw (eqb-true k n c) (rw (eq-eqb n n refl, b))
    go true c false b ih = pick_outside p k m (n + 1) (λ g. absurd (omega (arith, eqb-true k n c))) ∙ sym (ap p (eqb-true k n c) ∙ b)
    go false c true b ih = rw c (ih (eqb-false k n c))
    go false c false b ih = ih (eqb-false k n c)

-- what is picked is no smaller than the start
pub pick_low : (p : ℕ → Bool) (m n i : ℕ) → i < length (picked p n m) → n ≤ get_or (picked p n m) i 0
unfolding picked
pick_low p zero n i h = absurd (omega arith)
pick_low p (suc m) n i h = go (p n) i h (λ j g. pick_low p m (n + 1) j g)
  where
    more : List ℕ
    more = picked p (n + 1) m

    go : (b : Bool) (i : ℕ) → i < length (cond b (n ∷ more) more) → ((j : ℕ) → j < length more → n + 1 ≤ get_or more j 0) → n ≤ get_or (cond b (n ∷ more) more) i 0
    go true zero h ih = omega arith
    go true (suc i) h ih = omega (arith, ih i (omega arith))
    go false i h ih = omega (arith, ih i h)

-- below the i-th that is picked, counted from 0, i are picked
pub pick_index : (p : ℕ → Bool) (m n i : ℕ) → i < length (picked p n m) → length (picked p n (get_or (picked p n m) i 0 - n)) ≡ i
unfolding picked
pick_index p zero n i h = absurd (omega arith)
pick_index p (suc m) n i h = go (p n) refl i h (λ j g. pick_index p m (n + 1) j g) (λ j g. pick_low p m (n + 1) j g)
  where
    more : List ℕ
    more = picked p (n + 1) m

    past : (v : ℕ) → n + 1 ≤ v → length (picked p n (v - n)) ≡ one (p n) + length (picked p (n + 1) (v - (n + 1)))
    past v l = let e : v - n ≡ suc (v - (n + 1)) = omega arith in rw e (count_next p n (v - (n + 1)))

    go : (b : Bool) → p n ≡ b → (i : ℕ) → i < length (cond b (n ∷ more) more)
        → ((j : ℕ) → j < length more → length (picked p (n + 1) (get_or more j 0 - (n + 1))) ≡ j)
        → ((j : ℕ) → j < length more → n + 1 ≤ get_or more j 0)
        → length (picked p n (get_or (cond b (n ∷ more) more) i 0 - n)) ≡ i
    go true e zero h ih low = let z : n - n ≡ 0 = omega arith in rw z (count_none p n)
    go true e (suc i) h ih low = omega (arith, past (get_or more i 0) (low i (omega arith)), ap one e, ih i (omega arith))
    go false e i h ih low = omega (arith, past (get_or more i 0) (low i h), ap one e, ih i h)

pub pick_ascends : (p : ℕ → Bool) (m n i j : ℕ) → i < j → j < length (picked p n m) → get_or (picked p n m) i 0 < get_or (picked p n m) j 0
unfolding picked
pick_ascends p zero n i j l h = absurd (omega arith)
pick_ascends p (suc m) n i j l h = go (p n) i j l h (λ a b g e. pick_ascends p m (n + 1) a b g e) (λ a g. pick_low p m (n + 1) a g)
  where
    more : List ℕ
    more = picked p (n + 1) m

    go : (b : Bool) (i j : ℕ) → i < j → j < length (cond b (n ∷ more) more)
        → ((a b : ℕ) → a < b → b < length more → get_or more a 0 < get_or more b 0)
        → ((a : ℕ) → a < length more → n + 1 ≤ get_or more a 0)
        → get_or (cond b (n ∷ more) more) i 0 < get_or (cond b (n ∷ more) more) j 0
    go true i zero l h ih low = absurd (omega arith)
    go true zero (suc j) l h ih low = omega (arith, low j (omega arith))
    go true (suc i) (suc j) l h ih low = ih i j (omega arith) (omega arith)
    go false i j l h ih low = ih i j l h

pub pick_distinct : (p : ℕ → Bool) (m n : ℕ) → distinct (picked p n m) ≡ true
unfolding picked distinct
pick_distinct p zero n = refl
pick_distinct p (suc m) n = go (p n) (pick_distinct p m (n + 1))
  where
    go : (b : Bool) → distinct (picked p (n + 1) m) ≡ true → distinct (cond b (n ∷ picked p (n + 1) m) (picked p (n + 1) m)) ≡ true
    go true e = rw (pick_outside p n m (n + 1) (λ l. absurd (omega arith)), e)
    go false e = e
