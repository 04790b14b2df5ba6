-- The laws of `circle_stage`: of one row.
pub mod Marks
pub mod Circles
-- Stage 14 in W-202's terms.
pub mod Theorems
