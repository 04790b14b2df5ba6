-- Laws for whoever reads words: equal texts and words, texts in a list, the bytes of a word one by one.
pub mod Equality
pub mod WordParts
-- W-205: the list of reserved words.
pub mod WordList
-- A theorem by computation: the classes' names.
pub mod Named
-- What proofs about bytes and texts lean on, here and in other crates.
pub mod Lists
pub mod Steps
pub mod Missed
-- What the proofs of the functions here lean on.
mod Searching
