-- Hex numbers, the value of a number, and a GUID part's digits.
pub mod Numbers
