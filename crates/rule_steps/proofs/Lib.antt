-- The laws of `rule_steps`: of one row, and of the loop over them.
pub mod Rows
pub mod Loop
-- What the steps of rows are: between rules, in a map that has them, and told by four columns.
pub mod Theorems
pub mod Same
