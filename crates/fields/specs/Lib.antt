pub mod Words
pub mod Operators
pub mod Sizes
pub mod Phrases
pub mod Drafted
