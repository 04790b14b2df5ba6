-- What is proved of words and their places.
pub mod Theorems
pub mod Digits
-- What the theorems lean on.
pub mod Runs
pub mod Lexemes
pub mod Numbers
pub mod TextTokens
pub mod TextPlaces
