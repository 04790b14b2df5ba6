-- The laws of `question_kinds`.
pub mod Marks
-- Which numbers the maps hold, in terms of rows.
pub mod Theorems
