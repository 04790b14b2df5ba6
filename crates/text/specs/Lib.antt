pub mod Operators
pub mod Before
pub mod ItemWords
pub mod Printing
pub mod Answers
