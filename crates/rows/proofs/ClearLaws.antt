-- The laws of a table with 0 from an index on.
use Prim.Native.Nat.{ℕ, suc, ◌+◌, ◌-◌, ◌≤◌, ◌<◌}
use mathlib.Core.Path.{◌≡◌}
use mathlib.Core.List.{List, append-nil}
use native.Mathlib.Nat.{sub-zero}
use native.Mathlib.Numerals.{add-one}
use native.Mathlib.Omega.{arith}
use lib.ListN.{length, set, take, replicate, length-append, length-take, length-set, length-replicate}
use lib.Seq.{take_all, take-suc-set, append_snoc}
use Rattle.rows.specs.Table.{cleared}

module _ (t : List ℕ) where
  pub length_cleared : (i : ℕ) → length (cleared t i) ≡ length t
  unfolding cleared
  length_cleared i = simp (length-append, length-take, length-replicate) (omega arith)

  -- from 0 on all is 0
  pub cleared_whole : cleared t 0 ≡ replicate (length t) 0
  unfolding cleared
  cleared_whole = rw sub-zero

  -- past the end nothing is left to clear
  pub cleared_none : (i : ℕ) → length t ≤ i → cleared t i ≡ t
  unfolding cleared
  cleared_none i h = let e : length t - i ≡ 0 = omega arith in rw (take_all i t h, e) (append-nil t)

  -- a number set to 0 is cleared
  pub cleared_next : (i : ℕ) → i < length t → cleared (set t i 0) (i + 1) ≡ cleared t i
  unfolding cleared
  cleared_next i h =
      let e : length t - i ≡ suc (length t - suc i) = omega arith in
      rw (add-one, take-suc-set t i 0 h, length-set, e) (append_snoc (take i t) 0 (replicate (length t - suc i) 0))
