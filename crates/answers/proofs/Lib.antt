-- Demand 3 as theorems of the definitions.
pub mod Demand3
-- Document 02's W-203.
pub mod OwnForm
-- Document 02's W-208.
pub mod MissingStep
pub mod UncheckedStep
-- Decided points of document 01, by computation.
pub mod Computed
pub mod Decided
pub mod FormExamples
pub mod Printed
-- Rows: how many, how long, at which places, and found by their places.
pub mod ExpressionSymbols
pub mod ExpressionWeight
pub mod RowWeight
pub mod StatementPlaces
pub mod RowCount
pub mod Settling
pub mod RowShape
pub mod FoundRows
pub mod Walks
pub mod RowPlaces
-- What stages leave of rows, and the rule that a ruleref finds (document 02, W-203).
pub mod Faults
pub mod RuleNames
pub mod Forms
pub mod FoundRules
pub mod RuleForms
-- What demand 3 rests on: the stages in order, and the numbers that questions get.
pub mod Checks
pub mod Circles
pub mod Answers
pub mod QuickCheck
pub mod QuestionNumbers
