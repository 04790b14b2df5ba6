-- A list with zeros behind it, and another put in the place of the first of these.
-- Assumes nothing.
use Prim.Native.Nat.{ℕ, ◌+◌, ◌-◌, ◌≤◌}
use native.Mathlib.Omega.{arith}
use mathlib.Core.Path.{◌≡◌, refl, sym, ap, ◌∙◌}
use mathlib.Core.List.{List, ◌++◌, append_assoc}
use lib.ListN.{length, take, drop, replicate, length-append, length-replicate, replicate-append-replicate}
use lib.Seq.{take_at, drop_at}
use borrow.Rule.Slice.PartMut.{mid_of, put_mid}

abbrev pub zeros : ℕ → List ℕ
zeros n = replicate n 0

module _ (k n : ℕ) (h : k ≤ n) where
  split : zeros n ≡ zeros k ++ zeros (n - k)
  split = let e : k + (n - k) ≡ n = omega arith in ap zeros (sym e) ∙ sym (replicate-append-replicate {A = ℕ} k (n - k) 0)

  pub take_zeros : take k (zeros n) ≡ zeros k
  take_zeros = ap (take k) split ∙ take_at (zeros k) (zeros (n - k)) k (length-replicate {A = ℕ} k 0)

  pub drop_zeros : drop k (zeros n) ≡ zeros (n - k)
  drop_zeros = ap (drop k) split ∙ drop_at (zeros k) (zeros (n - k)) k (length-replicate {A = ℕ} k 0)

-- n numbers: those of p, and zeros
abbrev pub padded : List ℕ → ℕ → List ℕ
padded p n = p ++ zeros (n - length p)

module _ (p : List ℕ) (k n : ℕ) (h : length p + k ≤ n) where
  behind : drop (length p) (padded p n) ≡ zeros (n - length p)
  behind = drop_at p (zeros (n - length p)) (length p) refl

  -- the first k of the zeros
  pub mid_padded : mid_of (length p) k (padded p n) ≡ zeros k
  mid_padded = ap (take k) behind ∙ take_zeros k (n - length p) (omega arith)

  -- with q, and zeros, in their place
  pub put_padded : (q : List ℕ) → length q ≤ k → put_mid (length p) k (padded p n) (padded q k) ≡ padded (p ++ q) n
  put_padded q less =
      let first = take_at p (zeros (n - length p)) (length p) refl in
      let last : drop k (drop (length p) (padded p n)) ≡ zeros (n - length p - k) =
      ap (drop k) behind ∙ drop_zeros k (n - length p) (omega arith) in
      let all : k - length q + (n - length p - k) ≡ n - length (p ++ q) = rw (length-append p q) (omega arith) in
      rw (first, last, append_assoc q (zeros (k - length q)) (zeros (n - length p - k)))
      (ap (λ (z : List ℕ). p ++ (q ++ z)) (replicate-append-replicate {A = ℕ} (k - length q) (n - length p - k) 0 ∙ ap zeros all)
      ∙ sym (append_assoc p q (zeros (n - length (p ++ q)))))
