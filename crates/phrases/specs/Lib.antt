-- The definitions that the contracts of `phrases` cite.
pub mod Stream
pub mod Phrase
pub mod Passed
