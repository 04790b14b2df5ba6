-- Number and values of each case of reading's outcome (document 01, Refusal numbers) and of its answer (document 02, W-201).
-- Assumes nothing.
use Rattle.std.specs.Prelude.{ℕ, ◌≡◌, List, Result, Ok, Err}
use Rattle.std.specs.Result.{MatchResult, IsErrAnd}
use Rattle.refusals.specs.Numbers.{number_of}
use Rattle.answers.specs.Answer as answers
use Rattle.answers.specs.Answer.{accepts, refuses}
use Rattle.replies.specs.Replies.{Reply, accepting, answered, read_replied}
use Rattle.read.specs.declared.Accepted.{Accepted}
use Rattle.walk.specs.declared.Fault.{Fault}
use Rattle.read.specs.declared.Refusal.{Refusal}
use Rattle.read.specs.declared.Refusal.TheVariants.{At, TooFewRows}

-- the stages' outcome
abbrev pub refused : Fault → answers.Answer
refused f = refuses (number_of f.reason) f.place

abbrev pub found : Result Accepted Fault → answers.Answer
found (Ok a) = accepts a.rows a.free
found (Err f) = refused f

-- the answer: what an accepted source has, and what a refusal tells
abbrev pub accepted_told : Accepted → Reply
accepted_told a = accepting a.rows a.free 0

abbrev pub refusal_told : Refusal → Reply
refusal_told (At reason place line column) =
    record { number = number_of reason; place = place; rows = 0; free = 0; line = line; column = column; written = 0 }
refusal_told (TooFewRows need) = record { number = 6; place = 0; rows = need; free = 0; line = 0; column = 0; written = 0 }

abbrev pub told : Result Accepted Refusal → Reply
told = answered accepted_told refusal_told

-- a result whose fault, if it is one, has become the refusal of it on the source s
abbrev pub InFull : List ℕ → {A : Type 0} → Result A Fault → Result A Refusal → Type 0
InFull s o r = MatchResult o (λ x. r ≡ Ok x) (λ f. IsErrAnd r (λ d. refusal_told d ≡ read_replied s (refused f)))
