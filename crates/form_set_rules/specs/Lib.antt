-- The rules of a form set, and their rows in a table.
pub mod Rules
pub mod RowOfRule
