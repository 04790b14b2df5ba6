-- The readings of W-201 on whole answers of reading, with ten rows lent, computed from the bytes.
-- Assumes nothing.
use Prim.Native.Nat.{ℕ}
use Prim.Native.String.{String}
use mathlib.Core.Path.{◌≡◌, refl}
use mathlib.Core.List.{List, [], ◌∷◌, map}
use Rattle.lexemes.specs.Lexemes.{bytes}
use Rattle.positions.specs.Positions.{line_feeds, since_feed, column_after, line_at, column_at, position_at}
use Rattle.answers.proofs.Computed.{outcome_in, outcome}
use Rattle.replies.specs.Replies.{Reply, position_of, read_replied}

abbrev answers : List String → List Reply
answers sources = map (λ (t : String). let s = bytes t in read_replied s (outcome s).answer) sources

-- number and place, line and column
abbrev refused : ℕ → ℕ → ℕ → ℕ → Reply
refused number place line column = record { number = number; place = place; rows = 0; free = 0; line = line; column = column; written = 0 }

-- place 0 has a line; CR makes none; the end of the source, before and after a last LF and in a comment
pub readings_hold :
    answers ("" ∷ "@" ∷ "\n@" ∷ "\t\r\n \r@" ∷ "formset" ∷ "formset\n" ∷ "formset\n//ab" ∷ "formset\n\tform" ∷ [])
    ≡ refused 3 0 1 1 ∷ refused 2 0 1 1 ∷ refused 2 1 2 1 ∷ refused 2 5 2 3 ∷ refused 3 7 1 8 ∷ refused 3 8 2 1 ∷ refused 3 12 2 5 ∷ refused 3 9 2 2 ∷ []
unfolding outcome_in position_of position_at line_at column_at line_feeds since_feed column_after
readings_hold = refl
