-- How the code compares signed numbers of w bytes.
use Rattle.std.specs.Prelude.{ℕ, ◌+◌, ◌%◌}
use Rattle.sizes.specs.Sizes.{modulus, half}

-- half of the numbers added, and wrapped: the lowest signed number becomes 0 and the highest the last number of w bytes
unfoldable pub biased : ℕ → ℕ → ℕ
biased w x = (x + half w) % modulus w
