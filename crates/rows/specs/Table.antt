-- A table of rows: the numbers that the caller lends, ROW to a row (document 01, "Rows").
use Rattle.std.specs.Prelude.{ℕ, ◌+◌, ◌-◌, ◌*◌, ◌/◌, cond, List, ◌++◌, ltb, length, get_or, set, take, drop, replicate, ◌≡◌, refl}
use Rattle.rows.specs.Columns.{ROW}

-- "whole rows lent" (document 01, "Refusal numbers", No. 6)
abbrev pub whole_rows : List ℕ → ℕ
whole_rows t = length t / ROW

-- row n; all 0 where there is no such whole row
unfoldable pub row_at : List ℕ → ℕ → List ℕ
row_at t n = cond (ltb n (whole_rows t)) (take ROW (drop (n * ROW) t)) (replicate ROW 0)

-- the table with r for row n, as it is where there is no such whole row
unfoldable pub with_row : List ℕ → ℕ → List ℕ → List ℕ
with_row t n r = cond (ltb n (whole_rows t)) (take (n * ROW) t ++ (r ++ drop (n * ROW + ROW) t)) t

-- cell c of row n; 0 where there is no such cell
abbrev pub cell_at : List ℕ → ℕ → ℕ → ℕ
cell_at t n c = get_or (row_at t n) c 0

-- the table with v for cell c of row n, as it is where there is no such cell
unfoldable pub with_cell : List ℕ → ℕ → ℕ → ℕ → List ℕ
with_cell t n c v = with_row t n (set (row_at t n) c v)

-- the table with 0 from an index on
unfoldable pub cleared : List ℕ → ℕ → List ℕ
cleared t from = take from t ++ replicate (length t - from) 0

-- which is: up to there the numbers stay, and from there on as many zeros stand as numbers stood
pub cleared_filled : (t : List ℕ) (from : ℕ) → cleared t from ≡ take from t ++ replicate (length t - from) 0
unfolding cleared
cleared_filled t from = refl
