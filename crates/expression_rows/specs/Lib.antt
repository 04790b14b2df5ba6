-- The definitions that the contracts of `expression_rows` cite.
pub mod Ends
