-- The numbers of an answer, and numbers in lent memory (document 02, W-201).
-- Assumes nothing.
use Rattle.std.specs.Prelude.{ℕ, List, [], ◌∷◌, ◌++◌, take, replicate}
use Rattle.replies.specs.Replies.{Reply}

-- in memory of n numbers: these as far as there is room, and 0 past them
unfoldable pub in_lent : ℕ → List ℕ → List ℕ
in_lent n l = take n (l ++ replicate n 0)

-- number, place, row count, free count, line, column, and the bytes written besides rows
abbrev pub reply_numbers : Reply → List ℕ
reply_numbers r = r.number ∷ r.place ∷ r.rows ∷ r.free ∷ r.line ∷ r.column ∷ r.written ∷ []
