-- The whole answer of the showing call, for every source, answers, table and output lent (document 02, W-202).
-- Assumes nothing.
use Rattle.std.specs.Prelude.{ℕ, ◌-◌, ◌*◌, cond, List, [], ◌++◌, eqb, ltb, length, replicate}
use Rattle.answers.specs.Answer.{Answer, refuses}
use Rattle.answers.specs.WholeAnswer.{refusal, derived, checked, read_answer, rows_of, read_table}
use Rattle.replies.specs.Replies.{Reply, read_replied}
use Rattle.saved_answers.specs.Good.{good_answers}
use Rattle.table_screen.specs.SourceScreen.{borne, screen_bytes}

-- "one byte a row": those of a source that reading accepts
unfoldable pub shown_bytes : List ℕ → List ℕ → List ℕ
shown_bytes s answers = elim (checked s) [ refusal k p ↦ [] | derived tree ↦ screen_bytes s tree answers ]

-- how many answers come before "the first such": the first that is out of order or has "a number no question bears"
unfoldable pub good_for : List ℕ → List ℕ → ℕ
good_for s answers = good_answers (borne (rows_of s)) 0 answers

-- where reading answers a: "reading's own; .. 15, answers not strictly ascending or with a number no question bears, place the first such, from 0; then
-- 30, fewer bytes lent than rows, place 0"; or as reading accepts. `good` answers are good
abbrev pub shown_for : (answers : List ℕ) (good m : ℕ) → Answer → Answer
shown_for answers good m a =
    cond (eqb a.number 0)
    (cond (eqb (2 * good) (length answers)) (cond (ltb m a.rows) (refuses 30 0) a) (refuses 15 good))
    a

-- showing the source s by these answers, with a table of n numbers and an output of m bytes
unfoldable pub show_answer : (s answers : List ℕ) (n m : ℕ) → Answer
show_answer s answers n m = shown_for answers (good_for s answers) m (read_answer s n)

-- with line and column
abbrev pub show_reply : (s answers : List ℕ) (n m : ℕ) → Reply
show_reply s answers n m = read_replied s (show_answer s answers n m)

-- the table afterwards: as reading leaves it, or all zeros
unfoldable pub show_table : (s answers : List ℕ) (n m : ℕ) → List ℕ
show_table s answers n m = cond (eqb (show_answer s answers n m).number 0) (read_table s n) (replicate n 0)

-- the output afterwards: the bytes and then zeros, or all zeros
unfoldable pub show_output : (s answers : List ℕ) (n m : ℕ) → List ℕ
show_output s answers n m =
    let shown = shown_bytes s answers in
    cond (eqb (show_answer s answers n m).number 0) (shown ++ replicate (m - length shown) 0) (replicate m 0)
