-- W-201 of an answer, in document 02's words.
-- Assumes nothing.
use Rattle.std.specs.Prelude.{ℕ, ◌≡◌, ◌⊎◌, List}
use Rattle.positions.specs.Positions.{line_at, column_at}
use Rattle.replies.specs.Replies.{Reply}

-- an accepting answer, the refusals whose place is always 0 (1, 6, 13, 17, 30), and that whose place is not in a source (15)
abbrev pub Unplaced : ℕ → Type 0
Unplaced number = (number ≡ 0) ⊎ (number ≡ 1) ⊎ (number ≡ 6) ⊎ (number ≡ 13) ⊎ (number ≡ 15) ⊎ (number ≡ 17) ⊎ (number ≡ 30)

pub record GivesLine (s : List ℕ) (r : Reply) : Type 0 where
  -- "Every refusal with a place gives both beside it, at the end of the source too"
  pub placed : (Unplaced r.number → ⊥) → (r.line ≡ line_at s r.place) × (r.column ≡ column_at s r.place)
  -- "an accepting answer, and a place that is always 0 or not in a source, give line 0, column 0"
  pub unplaced : Unplaced r.number → (r.line ≡ 0) × (r.column ≡ 0)
