pub mod Meanings
pub mod Standing
pub mod Starts
pub mod Walked
pub mod Whole
