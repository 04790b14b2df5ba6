-- The sizes and displays of numerics, and how column 12 holds them (document 02, W-204).
use Rattle.std.specs.Prelude.{ℕ, ◌+◌, ◌*◌, ◌/◌, ◌%◌}

-- "absent means eight bytes"
abbrev pub NO_SIZE : ℕ
NO_SIZE = 8

-- the displays, "0, 1 or 2 for the display in the order above"; absent means UINT_DEC
abbrev pub INT_DEC : ℕ
INT_DEC = 0

abbrev pub UINT_DEC : ℕ
UINT_DEC = 1

abbrev pub UINT_HEX : ℕ
UINT_HEX = 2

-- "column 12 holds size times 4 plus 0, 1 or 2 for the display"
abbrev pub size_and_display : ℕ → ℕ → ℕ
size_and_display size display = size * 4 + display

-- and back
abbrev pub size_of : ℕ → ℕ
size_of n = n / 4

abbrev pub display_of : ℕ → ℕ
display_of n = n % 4
