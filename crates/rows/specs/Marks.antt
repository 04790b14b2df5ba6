-- The mark of a place that may be absent: the place plus one, or 0 for none.
-- Assumes nothing.
use Rattle.std.specs.Prelude.{ℕ, ◌+◌, Option, Some, None}

abbrev pub marked : Option ℕ → ℕ
marked None = 0
marked (Some place) = place + 1
