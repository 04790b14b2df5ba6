-- The whole answer of resolving, for every source, table and output lent (document 01, Refusal numbers and Resolved text).
-- Assumes nothing.
use Rattle.std.specs.Prelude.{ℕ, ◌-◌, min, true, false, cond, List, [], ◌++◌, eqb, ltb, length, replicate}
use Rattle.rows.specs.Rows.{laid}
use Rattle.answers.specs.Answer.{LONGEST, Answer}
use Rattle.answers.specs.WholeAnswer.{refusal, derived, checked, read_answer, rows_of}
use Rattle.answers.specs.Text.{resolved_text}

-- the text of an accepted source
unfoldable pub text_of_source : List ℕ → List ℕ
text_of_source s = elim (checked s) [ refusal k p ↦ [] | derived f ↦ resolved_text f (rows_of s) ]

-- number, place, row count, free count and byte count
pub record Resolution : Type 0 where
  pub number : ℕ
  pub place : ℕ
  pub rows : ℕ
  pub free : ℕ
  pub bytes : ℕ

-- the longest text for m bytes lent
abbrev pub room : ℕ → ℕ
room m = min m LONGEST

-- 13: resolved text longer than the lent output or 65,536 bytes; row count is then the bytes needed
abbrev pub resolved_into : ℕ → ℕ → Answer → Resolution
resolved_into m need a =
    elim (ltb (room m) need) [
      | true ↦ record { number = 13; place = 0; rows = need; free = 0; bytes = 0 }
      | false ↦ record { number = 0; place = 0; rows = a.rows; free = a.free; bytes = need }
    ]

-- resolving the source s through a table of n numbers into m bytes
unfoldable pub resolution : List ℕ → ℕ → ℕ → Resolution
resolution s n m =
    let a = read_answer s n in
    elim (eqb a.number 0) [
      | true ↦ resolved_into m (length (text_of_source s)) a
      | false ↦ record { number = a.number; place = a.place; rows = a.rows; free = a.free; bytes = 0 }
    ]

-- the table afterwards
unfoldable pub resolved_table : List ℕ → ℕ → ℕ → List ℕ
resolved_table s n m = cond (eqb (resolution s n m).number 0) (laid (rows_of s) n) (replicate n 0)

-- the output afterwards: the text and then zeros, or all zeros
unfoldable pub resolved_output : List ℕ → ℕ → ℕ → List ℕ
resolved_output s n m = cond (eqb (resolution s n m).number 0) (text_of_source s ++ replicate (m - length (text_of_source s)) 0) (replicate m 0)
