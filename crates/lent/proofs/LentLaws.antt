-- Numbers in lent memory.
-- Assumes nothing.
use Prim.Native.Nat.{ℕ, ◌+◌, ◌-◌, ◌≤◌, ◌<◌}
use native.Mathlib.Omega.{arith}
use mathlib.Core.Path.{◌≡◌, sym, subst, ◌∙◌}
use mathlib.Core.Logic.{◌⊎◌, inl, inr}
use mathlib.Core.List.{List, ◌++◌}
use lib.ListN.{length, take, drop, replicate, length-append}
use Rattle.std.specs.Prelude.{min}
use Rattle.std.proofs.Math.Seq.{take-append_seam, take-append-add, take-length}
use Rattle.std.proofs.lemmas.List.{take-append-le, length-take-le, length-drop, take-replicate, append-nil}
use Rattle.std.proofs.lemmas.Bool.{cases_lt}
use Rattle.rows.specs.Table.{cleared}
use Rattle.lent.specs.Numbers.{in_lent}

module _ (l o : List ℕ) where
  -- the first numbers of l over o, and then zeros
  cut : (k : ℕ) → k ≤ length l → k ≤ length o → cleared (take k l ++ drop k o) k ≡ take k l ++ replicate (length o - k) 0
  unfolding cleared
  cut k inside room =
      let front : length (take k l) ≡ k = length-take-le k l inside in
      let seam : take k (take k l ++ drop k o) ≡ take k l = subst (λ m. take m (take k l ++ drop k o) ≡ take k l) front (take-append_seam (take k l) (drop k o)) in
      let long : length (take k l ++ drop k o) ≡ length o = length-append (take k l) (drop k o) ∙ omega (arith, front, length-drop k o) in
      rw (seam, long)

  -- are l in memory that is as long as o
  pub put_first : {k : ℕ} → k ≡ min (length l) (length o) → {h : List ℕ} → h ≡ take k l → cleared (h ++ drop k o) k ≡ in_lent (length o) l
  unfolding in_lent
  put_first {k} m e = rw e (cut k (omega (arith, m)) (omega (arith, m)) ∙ by (cases_lt (length o) (length l)))
    where
      by : (length o < length l) ⊎ (length l ≤ length o) → take k l ++ replicate (length o - k) 0 ≡ take (length o) (l ++ replicate (length o) 0)
      by (inl long) =
          let whole : k ≡ length o = omega (arith, m) in
          let none : length o - k ≡ 0 = omega arith in
          rw none (append-nil (take k l) ∙ rw whole (sym (take-append-le (length o) l (replicate (length o) 0) (omega arith))))
      by (inr short) =
          let whole : k ≡ length l = omega (arith, m) in
          let z : List ℕ = replicate (length o) 0 in
          let more : ℕ = length o - length l in
          let all : length l + more ≡ length o = omega arith in
          let behind : take (length o) (l ++ z) ≡ l ++ replicate more 0 =
          subst (λ n. take n (l ++ z) ≡ l ++ replicate more 0) all (take-append-add l z more ∙ rw (take-replicate {X = ℕ} more (length o) 0 (omega arith))) in
          rw whole (rw (take-length l) (sym behind))
