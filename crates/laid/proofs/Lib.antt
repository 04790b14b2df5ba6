-- The theorem that the rows of an accepted source are laid in the table that reading leaves, and what it rests on.
pub mod Held
pub mod Expressions
pub mod OwnRows
pub mod HeldTrees
pub mod Forests
pub mod FinishedRows
pub mod Theorems
-- Where the rows of an expression end, by the code's tests and of rows that are those of an expression.
pub mod EndLaws
