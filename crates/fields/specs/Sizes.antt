-- A numeric's size from what its FL keeps, and the first of its numbers that does not fit it (document 02, W-204).
-- Assumes nothing.
use Rattle.std.specs.Prelude.{ℕ, zero, suc, ◌/◌, Bool, false, not, cond, List, eqb}
use Rattle.rows.specs.Sizes.{NO_SIZE, UINT_DEC, size_and_display, size_of}
use Rattle.sizes.specs.Sizes.{width}
use Rattle.grammar.specs.Ranges.{bytes, keeps}

-- column 12: "absent means eight bytes and `DISPLAY_UINT_DEC`"
unfoldable pub size_entry : ℕ → ℕ
size_entry entry = cond (eqb (entry / 256) 0) (size_and_display NO_SIZE UINT_DEC) (entry / 256)

-- the number at a mark does not fit the size; where there is none, it does
unfoldable pub oversized : List ℕ → ℕ → ℕ → Bool
oversized s size zero = false
oversized s size (suc p) = not (keeps s (bytes (width size)) p)

-- of minimum, maximum, step and default, the mark of the first that does not fit, or 0
unfoldable pub first_oversized : List ℕ → (ℕ → ℕ) → ℕ
first_oversized s k =
    let size = size_of (size_entry (k 4)) in
    cond (oversized s size (k 5)) (k 5)
    (cond (oversized s size (k 6)) (k 6)
    (cond (oversized s size (k 7)) (k 7)
    (cond (oversized s size (k 8)) (k 8) 0)))
