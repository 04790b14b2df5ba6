-- The verdict on a source's tokens is right and the only right one.
pub mod Theorems
-- Small texts of the grammar, and numbers in their places, by computation.
pub mod Examples
pub mod RangeExamples
-- The parts of statements stand where their names say.
mod Positions
-- Laws for whoever walks by the grammar: the machine's equations, the levels of expressions, the alternatives, which rules are statements.
pub mod Equations
pub mod Levels
pub mod Alternatives
pub mod Statements
-- Rules that are a choice of words, flag words among classes, and the words that are printed.
pub mod Choices
pub mod FlagTotals
pub mod SizeWords
-- The tokens of a source, their places, and that no derivation has a bad one.
pub mod Totals
pub mod SourceTokens
pub mod Places
pub mod NoBadLeaf
