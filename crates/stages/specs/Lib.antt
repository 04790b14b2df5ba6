-- The definitions that the contracts and the laws of `stages` cite, a stage each.
pub mod Repeats
pub mod Rules
pub mod References
pub mod Choices
