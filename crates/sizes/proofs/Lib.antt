-- W-204's facts for any size and for the four, and its examples.
pub mod Theorems
pub mod Examples
-- What they stand on.
pub mod Tests
pub mod Signed
