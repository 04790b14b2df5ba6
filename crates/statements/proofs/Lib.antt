-- The laws of `statements`: the patterns of statements give the phrases of the resolved text.
pub mod Sources
pub mod StatementLaws
mod Examples
