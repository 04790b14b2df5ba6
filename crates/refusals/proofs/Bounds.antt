-- A refusal's number is not 0, which tells an accepting answer, and is small.
-- Assumes nothing.
use Prim.Native.Nat.{◌<◌}
use native.Mathlib.Omega.{arith}
use Rattle.refusals.specs.declared.Reason.{Reason}
use Rattle.refusals.specs.declared.Reason.TheVariants.{SourceTooLong, BadToken, Syntax, TooDeep, OutOfRange, TooFewRows, FormRepeated, QuestionRepeated, NameRepeated, TooManyRules, FindsNothing, BadChoice, TextTooLong, RuleInCircle, BadAnswer, SecondWord, BadFamily, TooFewBytes}
use Rattle.refusals.specs.Numbers.{number_of}

pub number_bounds : (r : Reason) → (0 < number_of r) × (number_of r < 31)
number_bounds SourceTooLong = (omega arith, omega arith)
number_bounds BadToken = (omega arith, omega arith)
number_bounds Syntax = (omega arith, omega arith)
number_bounds TooDeep = (omega arith, omega arith)
number_bounds OutOfRange = (omega arith, omega arith)
number_bounds TooFewRows = (omega arith, omega arith)
number_bounds FormRepeated = (omega arith, omega arith)
number_bounds QuestionRepeated = (omega arith, omega arith)
number_bounds NameRepeated = (omega arith, omega arith)
number_bounds TooManyRules = (omega arith, omega arith)
number_bounds FindsNothing = (omega arith, omega arith)
number_bounds BadChoice = (omega arith, omega arith)
number_bounds TextTooLong = (omega arith, omega arith)
number_bounds RuleInCircle = (omega arith, omega arith)
number_bounds BadAnswer = (omega arith, omega arith)
number_bounds SecondWord = (omega arith, omega arith)
number_bounds BadFamily = (omega arith, omega arith)
number_bounds TooFewBytes = (omega arith, omega arith)
