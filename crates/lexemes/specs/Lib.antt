-- The kinds of bytes, the classes, the signs and reserved words, words, what is to be shown of the list of reserved words, and how the code searches it.
pub mod Bytes
pub mod Classes
pub mod Lexemes
pub mod Words
pub mod WordList
pub mod Search
