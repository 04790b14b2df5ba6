-- The definitions that the contracts of `elements` cite, and those that speak of the phrases' symbols and entries.
pub mod Marks
pub mod Entries
pub mod Kinds
pub mod Words
pub mod Symbols
