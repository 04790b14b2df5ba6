-- What the contracts of `trials` cite: first differences, the values of bytes, texts put into a buffer.
pub mod Differences
pub mod Values
pub mod Puts
