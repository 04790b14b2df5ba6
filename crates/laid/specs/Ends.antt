-- Where the rows of an expression end: "a condition's or rule's expression rows follow it at once" (document 01, Rows).
-- Assumes nothing.
use Rattle.std.specs.Prelude.{ℕ, zero, suc, ◌-◌, cond, List}
use Rattle.rows.specs.Codes.{is_expression}
use Rattle.rows.specs.Columns as column
use Rattle.rows.specs.Table.{cell_at}

-- the first of n rows from i on that is part of no expression, the row after them where there is none
unfoldable pub end_of : List ℕ → ℕ → ℕ → ℕ
end_of t i zero = i
end_of t i (suc n) = let later = end_of t (suc i) n in cond (is_expression (cell_at t i column.CODE)) later i

-- the same of the first `count` rows of the table
abbrev pub end_from : List ℕ → ℕ → ℕ → ℕ
end_from t count i = end_of t i (count - i)
