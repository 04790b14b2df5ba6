-- A text put into a buffer.
-- Assumes nothing.
use Rattle.std.specs.Prelude.{◌≡◌, ℕ, ◌+◌, ◌<◌, ◌≤◌, List, length, Option, Some, None}
use Rattle.std.proofs.Math.Seq.{paste}

-- the buffer o with the text at a place is o', and r the place behind it; where the text does not fit, o' is o and r is 0
pub record Puts (o : List ℕ) (at : ℕ) (text o' : List ℕ) (r : ℕ) : Type 0 where
  pub within : r ≤ length o'
  pub fitting : at + length text ≤ length o → (r ≡ at + length text) × (o' ≡ paste o at text (length text))
  pub outside : length o < at + length text → (r ≡ 0) × (o' ≡ o)

-- the place behind a text, which is absent where the text does not fit, as a number: 0 for none
abbrev pub place_or_zero : Option ℕ → ℕ
place_or_zero None = 0
place_or_zero (Some place) = place
