-- The definitions that the contracts of `table_screen` cite.
pub mod TableScreen
-- What its theorems say of the questions of a source.
pub mod Questions
-- Which items of a source are hidden or grey.
pub mod SourceScreen
