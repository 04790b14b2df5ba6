-- Words of a resolved text and trees over them; trees that are nowhere too deep.
pub mod Shapes
pub mod Fitted
-- Expressions by their values, their words and their trees.
pub mod Formula
pub mod Words
pub mod Levels
pub mod Tree
-- How deep an expression goes.
pub mod Need
pub mod Expressions
