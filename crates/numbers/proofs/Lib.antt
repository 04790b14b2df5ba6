-- The laws of `numbers`. The layers above use Maps and Search for a map in hand, Giving to number questions in place, and Numbering for what
-- the numbers are.
pub mod Numbering
pub mod Examples
pub mod Giving
pub mod Search
pub mod Maps
-- What these rest on.
pub mod FreeNumbers
pub mod Lists
pub mod Ranges
pub mod Digits
