pub mod Answers
pub mod Surveyed
pub mod Faults
pub mod Drafted
pub mod Over
