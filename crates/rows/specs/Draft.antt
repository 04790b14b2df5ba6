-- Draft rows: while a source is read, the upper half of a cell keeps a mark, which is a place plus one, or 0 for none.
use Rattle.std.specs.Prelude.{ℕ, ◌+◌, ◌*◌, ◌/◌, ◌%◌, ◌^◌}

-- how many numbers half a cell can hold
abbrev pub HALF : ℕ
HALF = 2 ^ 32

-- what the finished row holds
abbrev pub low_of : ℕ → ℕ
low_of cell = cell % HALF

-- the mark: a place plus one, or 0 for none
abbrev pub mark_of : ℕ → ℕ
mark_of cell = cell / HALF

-- a cell of two halves, of which each keeps its lowest 32 bits
abbrev pub with_mark : ℕ → ℕ → ℕ
with_mark low mark = low % HALF + mark % HALF * HALF
