-- Where what came differs from what is expected.
-- Assumes nothing.
use Rattle.std.specs.Prelude.{◌≡◌, ℕ, ◌-◌, ◌<◌, ◌≤◌, ◌≢◌, List, ◌++◌, length, replicate, slice_index, Option, Some, None}

-- r is the first index at which the list xs differs from ys with zeros behind it, or the length of xs where none does
pub record FirstDifference (xs ys : List ℕ) (r : ℕ) : Type 0 where
  pub within : r ≤ length xs
  pub same : (i : ℕ) → i < r → slice_index xs i ≡ slice_index ys i
  pub apart : r < length xs → slice_index xs r ≢ slice_index ys r

-- an index that may be absent, as a number: n for none
abbrev pub index_or : ℕ → Option ℕ → ℕ
index_or n None = n
index_or n (Some k) = k

-- a list with zeros behind it, n numbers in all
unfoldable pub padded : List ℕ → ℕ → List ℕ
padded ys n = ys ++ replicate (n - length ys) 0
