-- Worked examples: two rows and one number over are lent, 27 numbers.
use mathlib.Core.Path.{◌≡◌, refl}
use mathlib.Core.List.{List, [], ◌∷◌, flatten}
use Prim.Native.Nat.{ℕ, ◌+◌, ◌*◌}
use lib.ListN.{replicate}
use Rattle.rows.specs.Columns.{ROW, CODE, SIZE}
use Rattle.rows.specs.Table.{whole_rows, row_at, with_row, cell_at, cleared}
use Rattle.rows.specs.Rows.{put, laid}

abbrev lent : List ℕ
lent = replicate (2 * ROW + 1) 7

abbrev ones : List ℕ
ones = replicate ROW 1

two_rows : whole_rows lent ≡ 2
two_rows = refl

-- the last number of the second row, and the number over, which is no cell
last_cell : cell_at lent 1 SIZE ≡ 7
unfolding row_at
last_cell = refl

no_cell : cell_at lent 2 CODE ≡ 0
unfolding row_at
no_cell = refl

-- of three rows two fit
two_fit : put lent 0 (ones ∷ ones ∷ ones ∷ []) ≡ put lent 0 (ones ∷ ones ∷ [])
unfolding put with_row
two_fit = refl

-- past one row all is 0
one_row : cleared (put lent 0 (ones ∷ [])) ROW ≡ laid (ones ∷ []) (2 * ROW + 1)
unfolding put with_row cleared laid flatten
one_row = refl
