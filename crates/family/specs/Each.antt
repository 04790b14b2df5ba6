-- The sources of a family one by one, their words among the answers, and how many rows stand before theirs (document 02, W-206).
-- Assumes nothing.
use Rattle.std.specs.Prelude.{ℕ, zero, suc, ◌+◌, ◌*◌, cond, List, ◌∷◌, eqb, get_or}
use Rattle.std.proofs.Math.Seq.{slice}
use Rattle.family.specs.Family.{WORDS}

-- where source i starts: at the end before, or with the buffer
abbrev pub start_at : List ℕ → ℕ → ℕ
start_at ends i = get_or (0 ∷ ends) i 0

-- the bytes of source i
abbrev pub source_at : List ℕ → List ℕ → ℕ → List ℕ
source_at buffer ends i = slice (start_at ends i) (get_or ends i 0) buffer

-- word j of answer i, from 0: number, place, row count, free count, line, column
abbrev pub word_at : List ℕ → ℕ → ℕ → ℕ
word_at answers i j = get_or answers (i * WORDS + j) 0

-- all six
abbrev pub words_at : List ℕ → ℕ → List ℕ
words_at answers i = slice (i * WORDS) (i * WORDS + WORDS) answers

-- how many rows answer i takes: its row count, or none where it refuses
abbrev pub taken_at : List ℕ → ℕ → ℕ
taken_at answers i = cond (eqb (word_at answers i 0) 0) (word_at answers i 2) 0

-- and the answers before it: "a refused source uses none"
unfoldable pub taken_before : List ℕ → ℕ → ℕ
taken_before answers zero = 0
taken_before answers (suc i) = taken_before answers i + taken_at answers i
