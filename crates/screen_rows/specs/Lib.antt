-- The definitions that the contracts of `screen_rows` cite.
pub mod Passes
-- What its theorems say of the statements of a screen.
pub mod StatementRow
