-- The rows of an expression, and the stack of values that evaluates them.
pub mod Spells
pub mod Machine
pub mod Lent
