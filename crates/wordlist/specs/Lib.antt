-- The reserved words, byte order, and how the code has a text.
pub mod Words
pub mod Order
pub mod Filled
