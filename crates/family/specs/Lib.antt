-- The definitions that the contract of `read_family` cites.
pub mod Family
pub mod Answers
-- What its theorems say of refusal 17, and of the sources one by one.
pub mod Bad
pub mod Each
-- What its steps start from and end with.
pub mod Steps
