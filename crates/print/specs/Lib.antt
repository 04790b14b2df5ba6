-- The definitions that the contracts of `print` cite: the words of a phrase, from a row.
pub mod Phrase
pub mod Steps
