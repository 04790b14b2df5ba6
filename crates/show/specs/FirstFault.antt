-- Refusal 15 in W-202's words: "answers not strictly ascending or with a number no question bears, place the first such, from 0" (document 02).
-- Assumes nothing.
use Rattle.std.specs.Prelude.{ℕ, suc, ◌+◌, ◌*◌, ◌<◌, ◌≡◌, Bool, true, List, length}
use Rattle.saved_answers.specs.Answers.{question_of}

-- `borne` says which numbers questions bear
module _ (borne : ℕ → Bool) (answers : List ℕ) where
  -- answer k is none "such"
  pub record GoodAnswer (k : ℕ) : Type 0 where
    -- "two 64-bit words each"; "an odd last word is an answer out of order"
    pub whole : 2 * k + 1 < length answers
    -- "strictly ascending"
    pub ascends : (j : ℕ) → suc j ≡ k → question_of answers j < question_of answers k
    -- not "a number no question bears"
    pub bears : borne (question_of answers k) ≡ true

  -- none is
  abbrev pub AllGood : Type 0
  AllGood = (k : ℕ) → 2 * k < length answers → GoodAnswer k

  -- "the first such, from 0"
  pub record FirstFault (k : ℕ) : Type 0 where
    pub there : 2 * k < length answers
    pub fault : GoodAnswer k → ⊥
    pub before : (j : ℕ) → j < k → GoodAnswer j
