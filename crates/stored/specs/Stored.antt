-- Values by number (document 02, W-202: "Values are TRUE or FALSE, an unsigned 64-bit number, or undefined").
use Rattle.std.specs.Prelude.{ℕ, List, length, get_or, set}
use Rattle.operators.specs.declared.Scalar.{Scalar}
use Rattle.operators.specs.declared.Scalar.TheVariants.{Undefined}

-- how many values there is room for
abbrev pub room : List Scalar → ℕ
room s = length s

-- value k; undefined where there is no such value
abbrev pub value_at : List Scalar → ℕ → Scalar
value_at s k = get_or s k Undefined

-- the values with v for value k, as they are where there is no such value
abbrev pub with_value : List Scalar → ℕ → Scalar → List Scalar
with_value s k v = set s k v
