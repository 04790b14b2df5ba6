-- The definitions that the contracts of `rows` cite, and those that speak of its tables.
pub mod Columns
pub mod Cells
pub mod Codes
pub mod Flags
pub mod Sizes
pub mod Draft
pub mod Table
pub mod Rows
pub mod Marks
