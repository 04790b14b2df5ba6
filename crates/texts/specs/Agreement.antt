-- What it means that resolving agrees with what is expected of the program `resolve`.
-- Assumes nothing.
use Rattle.std.specs.Prelude.{◌≡◌, ℕ, List, length, Result, Ok, Err}
use Rattle.answers.specs.Resolution.{resolved_output}
use Rattle.replies.specs.Replies.{resolve_reply}
use Rattle.text.specs.declared.Resolved.{Resolved}
use Rattle.text.specs.declared.Refusal.{Refusal}
use Rattle.text.specs.Answers.{refusal_told, told}
use Rattle.trials.specs.Differences.{padded}
use Rattle.texts.specs.Line.{Line}

-- the output o is the text, of n bytes, and then zeros
pub record Text (n : ℕ) (o text : List ℕ) : Type 0 where
  pub long : n ≡ length text
  pub output : o ≡ padded text (length o)

-- what is expected is the text in the output o, or the line of the refusal
abbrev pub Agrees : Result Resolved Refusal → List ℕ → List ℕ → Type 0
Agrees (Ok resolved) o expected = Text resolved.bytes o expected
Agrees (Err refusal) o expected = Line (refusal_told refusal).number (refusal_told refusal).place expected

-- resolving the source s through a table of n numbers into m bytes has an answer and an output that agree with what is expected
pub record Agreed (s : List ℕ) (n m : ℕ) (expected : List ℕ) : Type 0 where
  pub answer : Result Resolved Refusal
  pub is : told answer ≡ resolve_reply s n m
  pub agrees : Agrees answer (resolved_output s n m) expected
