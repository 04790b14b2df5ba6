-- What it means that reading a source agrees with what is expected.
-- Assumes nothing.
use Rattle.std.specs.Prelude.{◌≡◌, ℕ, ◌+◌, ◌*◌, ◌%◌, cond, ◌||◌, List, [], take, ◌==◌, nat_lt}
use Rattle.rows.specs.Columns.{ROW}
use Rattle.answers.specs.WholeAnswer.{read_table, quick_check}
use Rattle.replies.specs.Replies.{Reply, read_reply}
use Rattle.trials.specs.Differences.{padded}
use Rattle.specimen.specs.declared.Expected.{Expected}

-- the whole reply that is expected: reading writes nothing but rows
abbrev pub reply_of : Expected → Reply
reply_of e =
    record {
      number = e.number;
      place = e.place;
      rows = e.rows;
      free = e.free;
      line = e.line;
      column = e.column;
      written = 0;
    }

-- what the quick check answers: only 16 and the numbers below 6 are its own
abbrev pub quick_of : Expected → ℕ
quick_of e = cond (e.number == 16 || nat_lt e.number 6) (e.number * 4294967296 + e.place % 4294967296) 0

-- of cells that start with the expected ones, those that are expected
abbrev pub cells_of : Expected → List ℕ → List ℕ
cells_of e cells = cond (e.number == 0) (take (e.rows * ROW) cells) []

-- reading the source s into a table of n numbers gives the expected reply, with line and column (W-201), and these cells and then zeros;
-- the quick check agrees with it
pub record Agrees (s : List ℕ) (n : ℕ) (e : Expected) (cells : List ℕ) : Type 0 where
  pub answer : read_reply s n ≡ reply_of e
  pub table : read_table s n ≡ padded cells n
  pub quick : quick_check s ≡ quick_of e
