-- The definitions that the contracts of `spellings` cite: an output, and what is written into it.
pub mod Output
pub mod Printed
