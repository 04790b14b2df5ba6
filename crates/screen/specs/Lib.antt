-- Which items are hidden or grey, and which conditions stand round them.
pub mod Kinds
pub mod Screen
pub mod Bytes
pub mod Round
