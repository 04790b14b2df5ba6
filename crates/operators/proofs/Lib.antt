-- W-202's sentences about operators and constants.
pub mod Theorems
-- Values stay within 64 bits: for the layers above.
pub mod Ranges
-- What these and the functions rest on; it serves here alone.
mod Tables
mod Arithmetic
