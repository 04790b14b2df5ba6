-- The search by halves among answers. For ascending answers it gives what Answers says (proofs/Theorems).
use Rattle.std.specs.Prelude.{ℕ, zero, suc, ◌+◌, ◌-◌, ◌/◌, cond, ◌&&◌, List, eqb, ltb}
use Rattle.std.proofs.Math.Option.{Option, none, some}
use Rattle.numbers.specs.Numbers.{used}
use Rattle.operators.specs.declared.Scalar.{Scalar}
use Rattle.saved_answers.specs.Answers.{by_kind, count, question_of, value_of}

-- half way between low and high
abbrev pub middle : ℕ → ℕ → ℕ
middle low high = low + (high - low) / 2

-- of ascending answers from low to before high the first for a number of n or more, high where there is none; fuel is enough where high ≤ low + fuel
unfoldable pub halved : List ℕ → ℕ → ℕ → ℕ → ℕ → ℕ
halved answers n zero low high = low
halved answers n (suc fuel) low high =
    let lower = halved answers n fuel low (middle low high) in
    let upper = halved answers n fuel (middle low high + 1) high in
    cond (ltb low high) (cond (ltb (question_of answers (middle low high)) n) upper lower) low

-- among all answers
unfoldable pub lowest : List ℕ → ℕ → ℕ
lowest answers n = halved answers n (count answers) 0 (count answers)

-- the value of that answer, where it is for n
unfoldable pub searched : List ℕ → ℕ → Option ℕ
searched answers n =
    let k = lowest answers n in
    cond (ltb k (count answers) && eqb (question_of answers k) n) (some (value_of answers k)) none

-- what question n answers, by this search
unfoldable pub question_value : (answers gotos checkboxes : List ℕ) → ℕ → Scalar
question_value answers gotos checkboxes n = by_kind (used gotos n) (used checkboxes n) (searched answers n)
