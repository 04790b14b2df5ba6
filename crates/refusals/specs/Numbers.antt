-- The number of each refusal: document 01, "Refusal numbers", for 1 to 13; document 02, W-202 for 14, 15 and 30, W-204 for 16 and W-206 for 17.
use Rattle.std.specs.Prelude.{ℕ}
use Rattle.refusals.specs.declared.Reason.{Reason}
use Rattle.refusals.specs.declared.Reason.TheVariants.{SourceTooLong, BadToken, Syntax, TooDeep, OutOfRange, TooFewRows, FormRepeated, QuestionRepeated, NameRepeated, TooManyRules, FindsNothing, BadChoice, TextTooLong, RuleInCircle, BadAnswer, SecondWord, BadFamily, TooFewBytes}

abbrev pub number_of : Reason → ℕ
number_of SourceTooLong = 1
number_of BadToken = 2
number_of Syntax = 3
number_of TooDeep = 4
number_of OutOfRange = 5
number_of TooFewRows = 6
number_of FormRepeated = 7
number_of QuestionRepeated = 8
number_of NameRepeated = 9
number_of TooManyRules = 10
number_of FindsNothing = 11
number_of BadChoice = 12
number_of TextTooLong = 13
number_of RuleInCircle = 14
number_of BadAnswer = 15
number_of SecondWord = 16
number_of BadFamily = 17
number_of TooFewBytes = 30
