-- Draft rows in a table, and what reading has made sure of them once stage 5 is passed.
pub mod Fits
pub mod Sound
-- The first fault that a stage finds among them.
pub mod Faults
