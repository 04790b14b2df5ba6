-- What the showing call answers for the finished rows in a table, and what the table and the output then hold (document 02, W-202): by the table alone,
-- whatever source the rows are of.
-- Assumes nothing.
use Rattle.std.specs.Prelude.{ℕ, ◌-◌, cond, List, ◌++◌, eqb, length, replicate}
use Rattle.numbers.specs.Numbers.{used}
use Rattle.rows.specs.Codes.{is_question}
use Rattle.answers.specs.Answer.{Answer, accepts}
use Rattle.replies.specs.Replies.{Reply}
use Rattle.saved_answers.specs.Good.{good_answers}
use Rattle.question_kinds.specs.Kinds.{is_goto, is_checkbox, kind_map}
use Rattle.table_screen.specs.TableScreen.{table_screen}
use Rattle.show.specs.Show.{shown_for}

-- "an accepting answer, and a place that is always 0 or not in a source, give line 0, column 0" (W-201)
abbrev pub unplaced : Answer → Reply
unplaced a = record { number = a.number; place = a.place; rows = a.rows; free = a.free; line = 0; column = 0; written = 0 }

-- the first `count` rows of the table t
module _ (answers t : List ℕ) (count : ℕ) where
  -- how many answers come before the first that is out of order or has a number that no row bears
  unfoldable pub good_in : ℕ
  good_in = good_answers (used (kind_map is_question t count)) 0 answers

  -- the byte of each row
  unfoldable pub bytes_in : List ℕ
  bytes_in = table_screen answers (kind_map is_goto t count) (kind_map is_checkbox t count) t count

  -- with so many free numbers, where m bytes are lent
  module _ (free m : ℕ) where
    unfoldable pub rows_answer : Answer
    rows_answer = shown_for answers good_in m (accepts count free)

    -- the table afterwards: as it is, or all zeros
    unfoldable pub rows_table : List ℕ
    rows_table = cond (eqb rows_answer.number 0) t (replicate (length t) 0)

    -- the output afterwards: the bytes and then zeros, or all zeros
    unfoldable pub rows_output : List ℕ
    rows_output = cond (eqb rows_answer.number 0) (bytes_in ++ replicate (m - count) 0) (replicate m 0)
