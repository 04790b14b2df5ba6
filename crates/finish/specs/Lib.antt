-- The definitions that the contracts of `finish` cite.
pub mod Finish
