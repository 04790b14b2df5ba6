-- What reading leaves of a table of which only the first rows are written (document 01, Refusal numbers; document 02, W-206).
-- Assumes nothing.
use Rattle.std.specs.Prelude.{ℕ, cond, List, eqb, length, replicate}
use Rattle.rows.specs.Rows.{put}
use Rattle.answers.specs.WholeAnswer.{read_answer, rows_of}

-- the table t after the source s was read over it: its rows first and the rest as it was, or all zeros
unfoldable pub read_over : List ℕ → List ℕ → List ℕ
read_over s t = cond (eqb (read_answer s (length t)).number 0) (put t 0 (rows_of s)) (replicate (length t) 0)
