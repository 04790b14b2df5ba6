-- The first values of a list as a stack.
use Prim.Native.Nat.{ℕ, zero, suc, ◌+◌, ◌-◌, ◌≤◌, ◌<◌}
use native.Mathlib.Omega.{arith}
use native.Mathlib.Decide.{dec_lt}
use mathlib.Core.Path.{◌≡◌, refl, ap, ap₂}
use mathlib.Core.Bool.{cond}
use mathlib.Core.List.{List, ◌∷◌}
use lib.Dec.{ltb}
use lib.ListN.{length}
use borrow.Author.Tests.{lt-ltb, le-ltb}
use Rattle.operators.specs.declared.Scalar.{Scalar}
use Rattle.operators.specs.declared.Scalar.TheVariants.{Undefined}
use Rattle.stored.specs.Stored.{room, value_at, with_value}
use Rattle.stored.proofs.StoredLaws.{value_outside, room_with, value_same, value_other}
use Rattle.evaluate.specs.Machine.{pushed, top, under}
use Rattle.evaluate.specs.Lent.{stacked}

module _ (s : List Scalar) where
  pub length_stacked : (h : ℕ) → length (stacked s h) ≡ h
  unfolding stacked
  length_stacked zero = refl
  length_stacked (suc h) = ap suc (length_stacked h)

  -- ---- the value on top, and those under it

  pub top_stacked : (h : ℕ) → 0 < h → top (stacked s h) ≡ value_at s (h - 1)
  unfolding stacked
  top_stacked zero l = absurd (omega arith)
  top_stacked (suc h) l = let z : suc h - 1 ≡ h = omega arith in rw z

  pub top_empty : (h : ℕ) → h ≡ 0 → top (stacked s h) ≡ Undefined
  unfolding stacked
  top_empty h e = rw e

  pub under_empty : (h : ℕ) → h ≡ 0 → under (stacked s h) ≡ stacked s h
  unfolding stacked
  under_empty h e = rw e refl

  pub under_stacked : (h : ℕ) → under (stacked s h) ≡ stacked s (h - 1)
  unfolding stacked
  under_stacked zero = refl
  under_stacked (suc h) = let z : suc h - 1 ≡ h = omega arith in rw z

  -- ---- a value put

  -- above the stack: it stays as it is
  stacked_beside : (h k : ℕ) (v : Scalar) → h ≤ k → stacked (with_value s k v) h ≡ stacked s h
  unfolding stacked
  stacked_beside zero k v l = refl
  stacked_beside (suc h) k v l = ap₂ ◌∷◌ (value_other s k v h (λ e. omega arith)) (stacked_beside h k v (omega arith))

  -- next to the value on top: one value more
  value_pushed : (h : ℕ) (v : Scalar) → value_at (with_value s h v) h ≡ cond (ltb h (room s)) v Undefined
  value_pushed h v =
      elim (dec_lt h (room s)) [
        | yes l ↦ rw (lt-ltb h (room s) l) (value_same s h v l)
        | no l ↦ rw (le-ltb h (room s) (omega arith)) (value_outside (with_value s h v) h (omega (arith, room_with s h v)))
      ]

  pub stacked_pushed : (h : ℕ) (v : Scalar) → stacked (with_value s h v) (h + 1) ≡ pushed (room s) v (stacked s h)
  unfolding stacked pushed
  stacked_pushed h v =
      let z : h + 1 ≡ suc h = omega arith in
      rw (z, length_stacked h) (ap₂ ◌∷◌ (value_pushed h v) (stacked_beside h h v (omega arith)))
