-- The definitions that the contract of `show` cites.
pub mod Show
pub mod Answers
-- The same by the rows of a table.
pub mod ShownRows
-- What its theorems say of answers at fault.
pub mod FirstFault
