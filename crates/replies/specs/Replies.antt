-- What a call answers in full: document 01's number, place and counts, and the line and column beside the place (document 02, W-201, W-202, W-206).
-- Assumes nothing.
use Rattle.std.specs.Prelude.{ℕ, Bool, cond, not, ◌||◌, List, eqb, Result, Ok, Err}
use Rattle.positions.specs.declared.Position.{Position}
use Rattle.positions.specs.Positions.{position_at}
use Rattle.answers.specs.Answer.{Answer}
use Rattle.answers.specs.WholeAnswer.{read_answer}
use Rattle.answers.specs.Resolution.{Resolution, resolution}

-- number, place, row count, free count, line, column, and the bytes written besides rows
pub record Reply : Type 0 where
  pub number : ℕ
  pub place : ℕ
  pub rows : ℕ
  pub free : ℕ
  pub line : ℕ
  pub column : ℕ
  pub written : ℕ

-- "an accepting answer, and a place that is always 0 or not in a source" have no place in the source: 0; 1, 6, 13 and 30; 15, whose place is an
-- answer (W-202); and 17, "place 0" (W-206)
abbrev pub has_place : ℕ → Bool
has_place number = not (eqb number 0 || eqb number 1 || eqb number 6 || eqb number 13 || eqb number 15 || eqb number 17 || eqb number 30)

-- "Every refusal with a place gives both beside it, at the end of the source too"; the others "give line 0, column 0"
unfoldable pub position_of : List ℕ → ℕ → ℕ → Position
position_of s number place = cond (has_place number) (position_at s place) (record { line = 0; column = 0 })

-- a call's answer on the source s
abbrev pub replied : List ℕ → ℕ → ℕ → ℕ → ℕ → ℕ → Reply
replied s number place rows free written =
    let p = position_of s number place in
    record { number = number; place = place; rows = rows; free = free; line = p.line; column = p.column; written = written }

-- that of a call which accepts
abbrev pub accepting : ℕ → ℕ → ℕ → Reply
accepting rows free written = record { number = 0; place = 0; rows = rows; free = free; line = 0; column = 0; written = written }

-- that of a call which accepts or refuses, by what each of the two tells
abbrev pub answered : {T E : Type 0} → (T → Reply) → (E → Reply) → Result T E → Reply
answered accepted refused (Ok x) = accepted x
answered accepted refused (Err e) = refused e

-- ---- reading

abbrev pub read_replied : List ℕ → Answer → Reply
read_replied s a = replied s a.number a.place a.rows a.free 0

-- reading the source s into a table of n numbers
abbrev pub read_reply : List ℕ → ℕ → Reply
read_reply s n = read_replied s (read_answer s n)

-- ---- resolving

abbrev pub resolve_replied : List ℕ → Resolution → Reply
resolve_replied s r = replied s r.number r.place r.rows r.free r.bytes

-- resolving the source s through a table of n numbers into m bytes
abbrev pub resolve_reply : List ℕ → ℕ → ℕ → Reply
resolve_reply s n m = resolve_replied s (resolution s n m)
