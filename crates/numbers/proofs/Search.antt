-- The search for the next free number, word by word.
use mathlib.Core.Path.{◌≡◌, refl, sym, ap, ◌∙◌}
use mathlib.Core.Bool.{Bool}
use mathlib.Core.List.{List, [], ◌∷◌, head_d}
use Prim.Native.Nat.{ℕ, zero, suc, ◌+◌, ◌-◌, ◌*◌, ◌/◌, ◌%◌, ◌^◌, ◌≤◌, ◌<◌, max}
use native.Mathlib.Omega.{arith}
use lib.Dec.{eqb}
use lib.Count.{count_trailing_zeros}
use lib.ListN.{get_or}
use Rattle.numbers.specs.Numbers.{number_limit, digit, used, with_used, free_from, first_free}
use Rattle.numbers.proofs.Digits.{Found, found, full}
use Rattle.numbers.proofs.FreeNumbers.{Smallest, smallest_free, is_number_lem, number_range, free_here, free_skip, free_next, free_none, free_same}
use Rattle.numbers.proofs.Maps.{used_at, marked_other}

-- ---- one word

module _ (ws : List ℕ) (at : ℕ) (pos : 1 ≤ at) (low : at < number_limit) (fits : get_or ws (at / 64) 0 < 2 ^ 64) where
  -- the word of `at`, flipped, from the digit of `at` up
  abbrev rest : ℕ
  rest = (2 ^ 64 - 1 - get_or ws (at / 64) 0) / 2 ^ (at % 64)

  -- a number k of that word
  in_word : (k j : ℕ) → k / 64 ≡ at / 64 → k % 64 ≡ j → (d : ℕ) → digit (get_or ws (at / 64) 0) j ≡ d → used ws k ≡ eqb d 1
  in_word k j p q d e = used_at ws k (at / 64) j p q ∙ rw e

  -- every number of the word from `at` up is used
  pub word_full : rest ≡ 0 → free_from (used ws) at ≡ free_from (used ws) (at / 64 * 64 + 64)
  word_full z =
      free_skip (used ws) at (at / 64 * 64 + 64) (omega arith) (omega arith)
      (λ k g l i. in_word k (k % 64) (omega arith) refl 1 (full (get_or ws (at / 64) 0) (at % 64) fits z (k % 64) (omega arith) (omega arith)))

  -- one is not
  module _ (z : rest ≡ 0 → ⊥) where
    hit : Found (get_or ws (at / 64) 0) (at % 64) (count_trailing_zeros 64 rest)
    hit = found (get_or ws (at / 64) 0) (at % 64) fits (omega arith) z

    pub word_low : at + count_trailing_zeros 64 rest < number_limit
    word_low = omega (arith, hit.inside)

    pub word_free : free_from (used ws) at ≡ (at + count_trailing_zeros 64 rest) ∷ free_from (used ws) (at + count_trailing_zeros 64 rest + 1)
    word_free =
        free_skip (used ws) at (at + t) (omega arith) (omega (arith, hit.inside))
        (λ k g l i. in_word k (at % 64 + (k - at)) (omega (arith, hit.inside)) (omega (arith, hit.inside)) 1 (hit.before (k - at) (omega arith)))
        ∙ free_here (used ws) (at + t) (is_number_lem (at + t) (omega arith) word_low)
        (in_word (at + t) (at % 64 + t) (omega (arith, hit.inside)) (omega (arith, hit.inside)) 0 hit.here)
      where
        t : ℕ
        t = count_trailing_zeros 64 rest

-- ---- the answer

-- 0 is no number
pub free_start : (taken : ℕ → Bool) (from : ℕ) {at : ℕ} → at ≡ max from 1 → free_from taken from ≡ free_from taken at
free_start taken zero e = rw e (free_skip taken 0 1 (omega arith) (omega arith) (λ k l g i. absurd (omega (arith, (number_range k i).0))))
free_start taken (suc from) {at} e = let f : at ≡ suc from = omega arith in rw f

module _ (ws : List ℕ) (at : ℕ) where
  pub first_is : {n : ℕ} {l : List ℕ} → free_from (used ws) at ≡ n ∷ l → n ≡ first_free ws at
  unfolding first_free head_d
  first_is e = rw e

  pub first_none : free_from (used ws) at ≡ [] → number_limit ≡ first_free ws at
  unfolding first_free head_d
  first_none e = rw e

  -- ---- for callers

  -- it is the smallest number from `at` up that is not used
  pub first_free_lem : Smallest (used ws) at (first_free ws at)
  unfolding first_free
  first_free_lem = smallest_free (used ws) at

  module _ {n : ℕ} (e : n ≡ first_free ws at) where
    smallest : Smallest (used ws) at n
    smallest = rw e first_free_lem

    -- a number is found: it comes first, and then those that are free once it is marked
    pub next_found : n < number_limit → free_from (used ws) at ≡ n ∷ free_from (used (with_used ws n)) (n + 1)
    next_found h =
        free_next (used ws) at smallest h
        ∙ ap (λ (l : List ℕ). n ∷ l) (free_same (used ws) (used (with_used ws n)) (n + 1) (λ k l. sym (marked_other ws n k (λ f. omega arith))))

    -- none is found
    pub next_none : number_limit ≤ n → free_from (used ws) at ≡ []
    next_none h = free_none (used ws) at smallest h
