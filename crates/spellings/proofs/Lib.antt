-- The laws of `spellings`: bytes and words one after another, digits, the words of the classes.
pub mod Outputs
pub mod Printing
pub mod DigitLaws
pub mod SpellingLaws
