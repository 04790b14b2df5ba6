-- Rows of a table as drafts, and sound drafts as a table holds them.
pub mod DraftLaws
pub mod CodingLaws
-- Tests of rows, the loops that look for a fault, and the first of the marks at fault as a stage's answer.
pub mod RowTests
pub mod FaultLaws
pub mod Firsts
