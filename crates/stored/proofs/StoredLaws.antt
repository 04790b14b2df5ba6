-- Values by number: what is read where one was put, and what new values are.
use Prim.Native.Nat.{ℕ, zero, suc, ◌≤◌, ◌<◌}
use mathlib.Core.Path.{◌≡◌, refl}
use mathlib.Core.Logic.{◌≢◌}
use mathlib.Core.List.{List}
use lib.ListN.{length, replicate, length-set, get_or-eq_default}
use lib.Seq.{get_or-set_same, get_or-set_other, set_out}
use Rattle.operators.specs.declared.Scalar.{Scalar}
use Rattle.operators.specs.declared.Scalar.TheVariants.{Undefined}
use Rattle.stored.specs.Stored.{room, value_at, with_value}

-- new values are undefined
pub new_undefined : (n k : ℕ) → value_at (replicate n Undefined) k ≡ Undefined
new_undefined zero k = refl
new_undefined (suc n) zero = refl
new_undefined (suc n) (suc k) = new_undefined n k

module _ (s : List Scalar) (k : ℕ) where
  pub value_outside : room s ≤ k → value_at s k ≡ Undefined
  value_outside h = get_or-eq_default s Undefined h

  module _ (v : Scalar) where
    -- past the end nothing is put
    pub with_outside_lem : room s ≤ k → with_value s k v ≡ s
    with_outside_lem h = set_out s k v h

    pub length_with : length (with_value s k v) ≡ length s
    length_with = length-set s k v

    pub room_with : room (with_value s k v) ≡ room s
    room_with = length-set s k v

    -- what was put is read back
    pub value_same : k < room s → value_at (with_value s k v) k ≡ v
    value_same h = get_or-set_same s k v Undefined h

    -- every other value is unchanged
    pub value_other : (j : ℕ) → j ≢ k → value_at (with_value s k v) j ≡ value_at s j
    value_other j d = get_or-set_other s k j v Undefined d
