-- W-205: the list rises.
pub mod Order
-- Facts about tests and lists, here and in other crates.
pub mod Lists
-- Texts that are filled up, and their numbers.
pub mod PackedBytes
pub mod Filling
