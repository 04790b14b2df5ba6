-- Tokens, and how the code guesses where a word ends.
pub mod Tokens
pub mod Likely
