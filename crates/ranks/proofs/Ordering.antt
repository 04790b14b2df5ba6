-- Rules by rising rank: each stands in the order once, and those of lower rank stand before it.
use mathlib.Core.Path.{◌≡◌, refl, sym, ap, ◌∙◌}
use mathlib.Core.Bool.{Bool, true, false, ◌&&◌, ◌||◌, or-true, false≢true}
use mathlib.Core.Logic.{⊎_elim}
use mathlib.Core.List.{List, ◌++◌}
use Prim.Native.Nat.{ℕ, zero, suc, ◌+◌, ◌-◌, ◌≤◌, ◌<◌}
use native.Mathlib.Omega.{arith}
use native.Mathlib.Numerals.{add-one}
use borrow.Author.Tests.{eq-eqb, eqb-true, leb-true, leb-false, ltb-true, ltb-false, lt-ltb, le-ltb}
use lib.Dec.{ltb, leb, eqb}
use lib.ListN.{length, get_or, length-append, get_or-append}
use lib.Seq.{get_or-append-add}
use Rattle.numbers.specs.Numbers.{picked, mem, distinct}
use Rattle.numbers.proofs.Lists.{mem_append, mem_get_or}
use Rattle.numbers.proofs.Ranges.{and_yes, pick_none, pick_same, pick_inside, pick_outside, pick_distinct, count_or}
use Rattle.circles.proofs.Reaching.{or_yes, or_first, not_yes}
use Rattle.circles.proofs.Turns.{below_next}
use Rattle.ranks.specs.Ranks.{by_rank}
use Rattle.ranks.proofs.Lists.{place_of, distinct_at, distinct_append, count_all}

module _ (ranks : ℕ → ℕ) (n : ℕ) where
  -- the rules of rank k, by number
  abbrev of_rank : ℕ → List ℕ
  of_rank k = picked (λ a. eqb (ranks a) k) 1 n

  of_rank_lem : (k a : ℕ) → mem a (of_rank k) ≡ true → (0 < a) × (a ≤ n) × (ranks a ≡ k)
  of_rank_lem k a e = go (ltb 0 a) refl (ltb n a) refl
    where
      go : (s : Bool) → ltb 0 a ≡ s → (t : Bool) → ltb n a ≡ t → (0 < a) × (a ≤ n) × (ranks a ≡ k)
      go true s false t =
          let low : 0 < a = ltb-true 0 a s in
          let high : a ≤ n = ltb-false n a t in
          (low, high, eqb-true _ _ (sym (pick_inside (λ x. eqb (ranks x) k) a n 1 low (omega arith)) ∙ e))
      go true s true t = absurd (false≢true (sym (pick_outside (λ x. eqb (ranks x) k) a n 1 (λ h. omega (arith, ltb-true n a t))) ∙ e))
      go false s t u = absurd (false≢true (sym (pick_outside (λ x. eqb (ranks x) k) a n 1 (λ h. absurd (omega (arith, ltb-false 0 a s)))) ∙ e))

  -- what stands among the rules of rank below k: each rule of 1 to n that has such a rank
  ranked_rule : (k a : ℕ) → mem a (by_rank ranks n k) ≡ true → (0 < a) × (a ≤ n) × (ranks a < k)
  unfolding by_rank mem
  ranked_rule zero a e = absurd (false≢true e)
  ranked_rule (suc k) a e =
      let f : mem a (by_rank ranks n k ++ of_rank k) ≡ true = e in
      ⊎_elim
      (λ g. let u = ranked_rule k a g in (u.0, u.1, omega (arith, u.2)))
      (λ g. let u = of_rank_lem k a g in (u.0, u.1, omega (arith, u.2)))
      (or_yes (mem a (by_rank ranks n k)) (mem a (of_rank k)) (sym (mem_append a (by_rank ranks n k) (of_rank k)) ∙ f))

  rule_ranked : (k a : ℕ) → 0 < a → a ≤ n → ranks a < k → mem a (by_rank ranks n k) ≡ true
  unfolding by_rank
  rule_ranked zero a l h r = absurd (omega arith)
  rule_ranked (suc k) a l h r = mem_append a (by_rank ranks n k) (of_rank k) ∙ go (ltb (ranks a) k) refl (rule_ranked k a l h)
    where
      go : (t : Bool) → ltb (ranks a) k ≡ t → (ranks a < k → mem a (by_rank ranks n k) ≡ true) → (mem a (by_rank ranks n k) || mem a (of_rank k)) ≡ true
      go true t ih = or_first _ _ (ih (ltb-true _ _ t))
      go false t ih =
          let e : ranks a ≡ k = omega (arith, ltb-false (ranks a) k t) in
          rw (pick_inside (λ x. eqb (ranks x) k) a n 1 l (omega arith), eq-eqb (ranks a) k e, or-true (mem a (by_rank ranks n k)))

  -- nothing twice
  ranked_distinct : (k : ℕ) → distinct (by_rank ranks n k) ≡ true
  unfolding by_rank distinct
  ranked_distinct zero = refl
  ranked_distinct (suc k) =
      distinct_append (by_rank ranks n k) (of_rank k) (ranked_distinct k) (pick_distinct (λ a. eqb (ranks a) k) n 1)
      (λ a e. not_yes _ (λ f. omega (arith, (ranked_rule k a e).2, (of_rank_lem k a f).2)))

  -- how many they are
  ranked_count : (k : ℕ) → length (by_rank ranks n k) ≡ length (picked (λ a. ltb (ranks a) k) 1 n)
  unfolding by_rank
  ranked_count zero = sym (ap length (pick_none (λ a. ltb (ranks a) 0) n 1 (λ a l h. le-ltb (ranks a) 0 (omega arith))))
  ranked_count (suc k) =
      omega (
        arith,
        length-append (by_rank ranks n k) (of_rank k),
        ranked_count k,
        count_or (λ a. ltb (ranks a) k) (λ a. eqb (ranks a) k) n 1,
        ap length (pick_same (λ a. ltb (ranks a) k || eqb (ranks a) k) (λ a. ltb (ranks a) (suc k)) n 1 next),
        ap length (pick_none (λ a. ltb (ranks a) k && eqb (ranks a) k) n 1 (λ a l h. not_both a)),
      )
    where
      next : (a : ℕ) → 1 ≤ a → a < 1 + n → (ltb (ranks a) k || eqb (ranks a) k) ≡ ltb (ranks a) (suc k)
      next a l h = below_next (ranks a) k ∙ ap (ltb (ranks a)) (add-one k)

      not_both : (a : ℕ) → (ltb (ranks a) k && eqb (ranks a) k) ≡ false
      not_both a =
          not_yes _
          (λ e. let z = and_yes (ltb (ranks a) k) (eqb (ranks a) k) e in omega (arith, ltb-true (ranks a) k z.0, eqb-true (ranks a) k z.1))

  -- ranks rise
  ranked_rises : (k i j : ℕ) → i ≤ j → j < length (by_rank ranks n k) → ranks (get_or (by_rank ranks n k) i 0) ≤ ranks (get_or (by_rank ranks n k) j 0)
  unfolding by_rank
  ranked_rises zero i j h g = absurd (omega arith)
  ranked_rises (suc k) i j h g = go (ltb j (length l)) refl (ranked_rises k i j h)
    where
      l : List ℕ
      l = by_rank ranks n k

      go : (t : Bool) → ltb j (length l) ≡ t → (j < length l → ranks (get_or l i 0) ≤ ranks (get_or l j 0))
          → ranks (get_or (l ++ of_rank k) i 0) ≤ ranks (get_or (l ++ of_rank k) j 0)
      go true t ih =
          let low : j < length l = ltb-true _ _ t in
          rw (get_or-append l (of_rank k) 0 i (omega arith), get_or-append l (of_rank k) 0 j low) (ih low)
      go false t ih =
          let past : length l ≤ j = ltb-false _ _ t in
          let m : ℕ = j - length l in
          let e : j ≡ length l + m = omega arith in
          let there : get_or (l ++ of_rank k) j 0 ≡ get_or (of_rank k) m 0 = ap (λ (x : ℕ). get_or (l ++ of_rank k) x 0) e ∙ get_or-append-add l (of_rank k) m 0 in
          let last : ranks (get_or (of_rank k) m 0) ≡ k = (of_rank_lem k _ (mem_get_or (of_rank k) m (omega (arith, length-append l (of_rank k))))).2 in
          let first : ranks (get_or (l ++ of_rank k) i 0) < suc k = (ranked_rule (suc k) _ (mem_get_or (l ++ of_rank k) i (omega arith))).2 in
          rw there (omega arith)

  -- ---- where every rank lies below n

  module _ (low : (a : ℕ) → 0 < a → a ≤ n → ranks a < n) where
    abbrev in_order : List ℕ
    in_order = by_rank ranks n n

    pub order_length : length in_order ≡ n
    order_length = ranked_count n ∙ count_all (λ a. ltb (ranks a) n) n 1 (λ a l h. lt-ltb (ranks a) n (low a l (omega arith)))

    -- at every place stands a rule
    pub order_rule : (i : ℕ) → i < n → (0 < get_or in_order i 0) × (get_or in_order i 0 ≤ n)
    order_rule i h = let u = ranked_rule n _ (mem_get_or in_order i (omega (arith, order_length))) in (u.0, u.1)

    -- every rule stands at a place
    pub order_place : (a : ℕ) → 0 < a → a ≤ n → (i : ℕ) × (i < n) × (get_or in_order i 0 ≡ a)
    order_place a l h = let u = place_of in_order a (rule_ranked n a l h (low a l h)) in (u.0, omega (arith, u.1, order_length), u.2)

    -- at one only
    pub order_once : (i j : ℕ) → i < j → j < n → get_or in_order i 0 ≡ get_or in_order j 0 → ⊥
    order_once i j h g = distinct_at in_order (ranked_distinct n) i j h (omega (arith, order_length))

    -- rules of lower rank stand before it
    pub order_lower : (i b : ℕ) → i < n → 0 < b → b ≤ n → ranks b < ranks (get_or in_order i 0) → (j : ℕ) × (j < i) × (get_or in_order j 0 ≡ b)
    order_lower i b h l g r = let u = order_place b l g in (u.0, before u.0 u.1 u.2, u.2)
      where
        before : (j : ℕ) → j < n → get_or in_order j 0 ≡ b → j < i
        before j f e = go (leb i j) refl
          where
            go : (t : Bool) → leb i j ≡ t → j < i
            go true t = absurd (omega (arith, ranked_rises n i j (leb-true i j t) (omega (arith, order_length)), ap ranks e))
            go false t = leb-false i j t
