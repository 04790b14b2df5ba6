-- The free numbers: those from a number up that are not taken.
use mathlib.Core.Path.{◌≡◌, refl, ap, ◌∙◌}
use mathlib.Core.Bool.{Bool, true, false, not, ◌&&◌}
use mathlib.Core.List.{List, [], ◌∷◌, head_d}
use Prim.Native.Nat.{ℕ, suc, ◌+◌, ◌-◌, ◌≤◌, ◌<◌}
use native.Mathlib.Omega.{arith}
use borrow.Author.Tests.{lt-ltb, ltb-true, ltb-false, not-true, not-false}
use lib.Dec.{ltb}
use lib.ListN.{length, get_or}
use Rattle.numbers.specs.Numbers.{number_limit, is_number, picked, free_from, mem, borne, free_numbers, free_count, distinct}
use Rattle.numbers.proofs.Ranges.{and_yes, pick_yes, pick_skip, pick_none, pick_same, count_both, First, first_picked, pick_outside, pick_inside, pick_ascends, pick_distinct}

-- ---- numbers

pub is_number_lem : (n : ℕ) → 1 ≤ n → n < number_limit → is_number n ≡ true
is_number_lem n l h = rw (lt-ltb 0 n l, lt-ltb n number_limit h)

pub number_range : (n : ℕ) → is_number n ≡ true → (1 ≤ n) × (n < number_limit)
number_range n e = let b = and_yes (ltb 0 n) (ltb n number_limit) e in (ltb-true 0 n b.0, ltb-true n number_limit b.1)

pub number_past : (n : ℕ) → is_number n ≡ false → 1 ≤ n → number_limit ≤ n
number_past n e l = ltb-false n number_limit (rw (lt-ltb 0 n l) at e)

-- ---- the next free number

-- r is the smallest number from n up that is not taken, number_limit where there is none
pub record Smallest (taken : ℕ → Bool) (n r : ℕ) : Type 0 where
  pub high : r ≤ number_limit
  pub on : r < number_limit → n ≤ r
  pub number : r < number_limit → is_number r ≡ true
  pub free : r < number_limit → taken r ≡ false
  pub least : (k : ℕ) → n ≤ k → k < r → is_number k ≡ true → taken k ≡ true

module _ (taken : ℕ → Bool) where
  abbrev is_free : ℕ → Bool
  is_free k = is_number k && not (taken k)

  pub free_end : (n : ℕ) → number_limit ≤ n → free_from taken n ≡ []
  unfolding free_from picked
  free_end n h = let e : number_limit - n ≡ 0 = omega arith in rw e

  pub free_here : (n : ℕ) → is_number n ≡ true → taken n ≡ false → free_from taken n ≡ n ∷ free_from taken (n + 1)
  unfolding free_from
  free_here n i t =
      let h = number_range n i in
      let e : number_limit - n ≡ suc (number_limit - (n + 1)) = omega arith in
      rw e (pick_yes is_free n (number_limit - (n + 1)) (rw (i, t)))

  is_free_lem : (k : ℕ) → is_free k ≡ true → (is_number k ≡ true) × (taken k ≡ false)
  is_free_lem k e = let b = and_yes (is_number k) (not (taken k)) e in (b.0, not-true (taken k) b.1)

  not_free : (k : ℕ) → (is_number k ≡ true → taken k ≡ true) → is_free k ≡ false
  not_free k t = go (is_number k) refl
    where
      go : (b : Bool) → is_number k ≡ b → (b && not (taken k)) ≡ false
      go true b = rw (t b)
      go false b = refl

  -- no number before n is free
  pub free_skip : (at n : ℕ) → at ≤ n → n ≤ number_limit → ((k : ℕ) → at ≤ k → k < n → is_number k ≡ true → taken k ≡ true) → free_from taken at ≡ free_from taken n
  unfolding free_from
  free_skip at n l h t =
      let e : number_limit - at ≡ (n - at) + (number_limit - n) = omega arith in
      let f : at + (n - at) ≡ n = omega arith in
      rw e (pick_skip is_free (n - at) at (number_limit - n) (λ k g m. not_free k (t k g (omega arith))) ∙ rw f)

  pub smallest_free : (n : ℕ) → Smallest taken n (head_d (free_from taken n) number_limit)
  unfolding free_from
  smallest_free n =
      let r : ℕ = head_d (free_from taken n) number_limit in
      let f : First is_free n (number_limit - n) number_limit r = first_picked is_free (number_limit - n) n number_limit (λ k l g. omega arith) in
      record {
        high = f.high;
        on = f.on;
        number = λ h. (is_free_lem r (f.holds h)).0;
        free = λ h. (is_free_lem r (f.holds h)).1;
        least = λ k l g i. not-false _ (rw i at (f.least k l g (omega (arith, f.high))));
      }

  -- the first free number, and those after it
  pub free_next : (n : ℕ) {r : ℕ} → Smallest taken n r → r < number_limit → free_from taken n ≡ r ∷ free_from taken (r + 1)
  free_next n {r} s h = free_skip n r (s.on h) s.high s.least ∙ free_here r (s.number h) (s.free h)

  pub free_none : (n : ℕ) {r : ℕ} → Smallest taken n r → number_limit ≤ r → free_from taken n ≡ []
  unfolding free_from
  free_none n s h = pick_none is_free (number_limit - n) n (λ k l g. not_free k (s.least k l (omega arith)))

-- the free numbers and the taken ones are all of 1 to 65,535
pub free_rest : (taken : ℕ → Bool) → length (free_from taken 1) + length (picked taken 1 65535) ≡ 65535
unfolding free_from
free_rest taken =
    let e : picked (is_free taken) 1 65535 ≡ picked (λ k. not (taken k)) 1 65535 =
    pick_same (is_free taken) (λ k. not (taken k)) 65535 1 (λ k l g. rw (is_number_lem k l (omega arith))) in
    omega (arith, ap length e, count_both taken 65535 1)

pub free_same : (taken taken' : ℕ → Bool) (n : ℕ) → ((k : ℕ) → n ≤ k → taken k ≡ taken' k) → free_from taken n ≡ free_from taken' n
unfolding free_from
free_same taken taken' n h = pick_same (is_free taken) (is_free taken') (number_limit - n) n (λ k l g. rw (h k l))

-- ---- the free numbers of a list: those of 1 to 65,535 that do not stand in it, ascending

pub free_exactly : (l : List ℕ) (k : ℕ) → mem k (free_numbers l) ≡ (is_number k && not (mem k l))
unfolding free_from
free_exactly l k = go (is_number k) refl
  where
    go : (b : Bool) → is_number k ≡ b → mem k (picked (λ j. is_number j && not (borne l j)) 1 65535) ≡ (b && not (mem k l))
    go true b =
        let h = number_range k b in
        pick_inside (λ j. is_number j && not (borne l j)) k 65535 1 h.0 (omega arith) ∙ rw b
    go false b = pick_outside (λ j. is_number j && not (borne l j)) k 65535 1 (number_past k b)

pub free_ascend : (l : List ℕ) (i j : ℕ) → i < j → j < free_count l → get_or (free_numbers l) i 0 < get_or (free_numbers l) j 0
unfolding free_from
free_ascend l i j h g = pick_ascends (λ k. is_number k && not (borne l k)) 65535 1 i j h g

pub free_distinct : (l : List ℕ) → distinct (free_numbers l) ≡ true
unfolding free_from
free_distinct l = pick_distinct (λ k. is_number k && not (borne l k)) 65535 1
