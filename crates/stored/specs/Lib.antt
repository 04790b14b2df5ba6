-- Values by number.
pub mod Stored
