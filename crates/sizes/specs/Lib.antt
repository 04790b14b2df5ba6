-- The sizes of numerics as W-204 has them, and the form in which the code compares signed numbers.
pub mod Sizes
pub mod Biased
