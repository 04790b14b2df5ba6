-- The values of packed numbers.
-- Assumes nothing.
use Rattle.std.specs.Prelude.{ℕ, ◌+◌, ◌*◌, List, [], ◌∷◌}

-- the number n with bytes behind it
unfoldable pub value_after : ℕ → List ℕ → ℕ
value_after n [] = n
value_after n (b ∷ bs) = value_after (n * 256 + b) bs

-- the number of bytes, the high one first
abbrev pub big_endian : List ℕ → ℕ
big_endian bs = value_after 0 bs
