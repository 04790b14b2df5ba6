pub mod Replies
pub mod Lines
