-- Refusal 17 in W-206's words (document 02).
-- Assumes nothing.
use Rattle.std.specs.Prelude.{ℕ, suc, ◌-◌, ◌/◌, ◌<◌, ◌≢◌, List, length, get_or}
use Rattle.answers.specs.Answer.{LONGEST}
use Rattle.family.specs.Family.{WORDS, MOST}

-- "they fall": one is below the one before it
pub record Falls (ends : List ℕ) : Type 0 where
  pub at : ℕ
  pub inside : suc at < length ends
  pub below : get_or ends (suc at) 0 < get_or ends at 0

-- "when there are more than 64 ends, they fall, the last (0 if there is none) isn't the buffer's length, the buffer is too long, or fewer answers are lent
-- than ends"; m words are lent for answers
pub data Bad (buffer ends : List ℕ) (m : ℕ) : Type 0 where
  too_many : MOST < length ends → Bad buffer ends m
  falling : Falls ends → Bad buffer ends m
  not_the_length : get_or ends (length ends - 1) 0 ≢ length buffer → Bad buffer ends m
  too_long : LONGEST < length buffer → Bad buffer ends m
  few_answers : m / WORDS < length ends → Bad buffer ends m
