-- The laws of first differences.
-- Assumes nothing.
use Rattle.std.proofs.Common.{◌≡◌, ℕ, zero, suc, ◌+◌, ◌-◌, ◌<◌, ◌≤◌, ◌⊎◌, List, [], ◌∷◌, ◌++◌, length, get_or, replicate, sym, refl, ◌∙◌, inl, inr, eq-or-lt_of_le, arith, length-append, ext_get_or}
use lib.ListN.{length-replicate}
use Rattle.trials.specs.Differences.{FirstDifference, padded}

-- two lists, each with zeros behind it, are the same up to an index
abbrev pub Same : List ℕ → List ℕ → ℕ → Type 0
Same xs ys k = (i : ℕ) → i < k → get_or xs i 0 ≡ get_or ys i 0

module _ (xs ys : List ℕ) where
  pub same_next : (k : ℕ) → Same xs ys k → get_or xs k 0 ≡ get_or ys k 0 → Same xs ys (k + 1)
  same_next k s e i h = by (eq-or-lt_of_le (let g : i ≤ k = omega arith in g)) where
    by : (i ≡ k) ⊎ (i < k) → get_or xs i 0 ≡ get_or ys i 0
    by (inl p) = rw p e
    by (inr l) = s i l

get_or_zeros : (m i : ℕ) → get_or (replicate m zero) i 0 ≡ zero
get_or_zeros zero i = refl
get_or_zeros (suc m) zero = refl
get_or_zeros (suc m) (suc i) = get_or_zeros m i

get_or_padded : (ys : List ℕ) (m i : ℕ) → get_or (ys ++ replicate m zero) i 0 ≡ get_or ys i 0
get_or_padded [] m i = get_or_zeros m i
get_or_padded (y ∷ ys) m zero = refl
get_or_padded (y ∷ ys) m (suc i) = get_or_padded ys m i

module _ (xs ys : List ℕ) (r : ℕ) where
  -- a list that differs nowhere from one that is no longer is that one with zeros behind it
  pub no_difference : FirstDifference xs ys r → length xs ≤ r → length ys ≤ length xs → xs ≡ padded ys (length xs)
  unfolding padded
  no_difference d h k =
      ext_get_or 0 xs (ys ++ replicate (length xs - length ys) zero)
      (simp (length-append, length-replicate) (omega arith))
      (λ i l. d.same i (omega arith) ∙ sym (get_or_padded ys (length xs - length ys) i))
