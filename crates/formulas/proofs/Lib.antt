-- The expressions of an accepted source nest at most 32 groups, with at most nine levels in each.
pub mod Theorems
-- Its parts.
pub mod Need
pub mod Nesting
pub mod Inverse
pub mod Levels
pub mod Fitted
-- The text of an expression, and its tree.
pub mod Words
pub mod Shapes
pub mod Tree
pub mod Good
pub mod Expressed
-- Small expressions, computed.
pub mod Examples
