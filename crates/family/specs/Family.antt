-- The whole answer of reading a family, for every buffer, list of ends, table and list of answers lent (document 02, W-206).
-- Assumes nothing.
use Rattle.std.specs.Prelude.{ℕ, ◌-◌, ◌*◌, ◌/◌, Bool, false, cond, not, ◌||◌, List, [], ◌∷◌, ◌++◌, eqb, ltb, length, replicate}
use Rattle.std.proofs.Math.Seq.{slice}
use Rattle.rows.specs.Columns.{ROW}
use Rattle.rows.specs.Rows.{laid}
use Rattle.answers.specs.Answer.{LONGEST}
use Rattle.answers.specs.WholeAnswer.{read_answer, rows_of}
use Rattle.replies.specs.Replies.{Reply, accepting, read_reply}

-- ---- "Take up to 64 sources joined in one lent buffer .., with a list of their ends"

-- the sources from a place on: each from the end before to its own
unfoldable pub sources_from : List ℕ → ℕ → List ℕ → List (List ℕ)
sources_from buffer start [] = []
sources_from buffer start (end ∷ ends) = slice start end buffer ∷ sources_from buffer end ends

-- the first starts with the buffer
abbrev pub sources_of : List ℕ → List ℕ → List (List ℕ)
sources_of buffer ends = sources_from buffer 0 ends

-- ---- "Every answer and all its rows equal those of reading that source alone"

-- what becomes of a source: its answer, and its rows in the table
pub record Member : Type 0 where
  pub answer : Reply
  pub rows : List (List ℕ)

-- the rows of the source s, where so many whole rows are left; "a refused source uses none"
unfoldable pub rows_with : List ℕ → ℕ → List (List ℕ)
rows_with s left = cond (eqb (read_answer s (left * ROW)).number 0) (rows_of s) []

abbrev pub alone : List ℕ → ℕ → Member
alone s left = record { answer = read_reply s (left * ROW); rows = rows_with s left }

-- one source after another, "with the rows that earlier accepted sources left over"
unfoldable pub members : ℕ → List (List ℕ) → List Member
members left [] = []
members left (s ∷ ss) = alone s left ∷ members (left - length (rows_with s left)) ss

-- all their rows, in order
unfoldable pub all_rows : List Member → List (List ℕ)
all_rows [] = []
all_rows (m ∷ ms) = m.rows ++ all_rows ms

-- "one answer each (six words: number, place, both counts, line, column)"
abbrev pub six_words : Reply → List ℕ
six_words r = r.number ∷ r.place ∷ r.rows ∷ r.free ∷ r.line ∷ r.column ∷ []

abbrev pub WORDS : ℕ
WORDS = 6

unfoldable pub all_words : List Member → List ℕ
all_words [] = []
all_words (m ∷ ms) = six_words m.answer ++ all_words ms

-- ---- "Refusals: 17 for the whole call"

abbrev pub MOST : ℕ
MOST = 64

-- "they fall": one is below that before it
unfoldable pub fall : ℕ → List ℕ → Bool
fall before [] = false
fall before (end ∷ ends) = ltb end before || fall end ends

-- "the last (0 if there is none)", where `before` is the one before all these
unfoldable pub last_end : ℕ → List ℕ → ℕ
last_end before [] = before
last_end before (end ∷ ends) = last_end end ends

-- the ends of a buffer of so many bytes fall, or the last is not its length
unfoldable pub bad_ends : ℕ → List ℕ → ℕ → Bool
bad_ends before ends bytes = fall before ends || not (eqb (last_end before ends) bytes)

-- "when there are more than 64 ends, they fall, the last (0 if there is none) isn't the buffer's length, the buffer is too long, or fewer answers are lent
-- than ends"; m words are lent for answers
unfoldable pub is_bad : List ℕ → List ℕ → ℕ → Bool
is_bad buffer ends m =
    ltb MOST (length ends) || bad_ends 0 ends (length buffer) || ltb LONGEST (length buffer) || ltb (m / WORDS) (length ends)

-- ---- the call

-- the sources read, with a table of n numbers lent
unfoldable pub readings : List ℕ → List ℕ → ℕ → List Member
readings buffer ends n = members (n / ROW) (sources_of buffer ends)

-- 17, "place 0", which has no line and column (W-201)
abbrev pub not_read : Reply
not_read = record { number = 17; place = 0; rows = 0; free = 0; line = 0; column = 0; written = 0 }

-- with m words lent for answers
module _ (buffer ends : List ℕ) (n m : ℕ) where
  -- "An accepted call's own row count is all rows written, its free count 0"
  unfoldable pub family_reply : Reply
  family_reply = cond (is_bad buffer ends m) not_read (accepting (length (all_rows (readings buffer ends n))) 0 0)

  -- the table afterwards: all rows and then zeros, or "every lent answer and row zero"
  unfoldable pub family_table : List ℕ
  family_table = cond (is_bad buffer ends m) (replicate n 0) (laid (all_rows (readings buffer ends n)) n)

  -- the answers afterwards: six words each and then zeros, or all zeros
  unfoldable pub family_answers : List ℕ
  family_answers =
      let words = all_words (readings buffer ends n) in
      cond (is_bad buffer ends m) (replicate m 0) (words ++ replicate (m - length words) 0)

-- ---- how many rows a source uses, by its answer

abbrev pub rows_taken : Reply → ℕ
rows_taken r = cond (eqb r.number 0) r.rows 0
