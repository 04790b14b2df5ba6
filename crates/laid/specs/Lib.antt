-- Statements, and their rows in a table.
pub mod Items
pub mod Statements
pub mod Spans
pub mod Laid
-- Where the rows of an expression end.
pub mod Ends
