-- The definitions that the contracts of `circle_stage` cite.
pub mod Circular
