-- The laws of the two passes; and the bytes of rows that are those of statements.
pub mod FlagLaws
pub mod PassLaws
mod CodeLaws
pub mod RowBytes
pub mod LaidRows
pub mod LaidBytes
pub mod Theorems
pub mod Examples
