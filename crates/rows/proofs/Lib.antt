-- The laws of the table that layers above share; those of the codes' tests and the examples serve here alone.
pub mod RowLaws
pub mod CellLaws
pub mod ColumnLaws
pub mod ClearLaws
pub mod FlatLaws
pub mod RunLaws
pub mod LaidLaws
pub mod MarkLaws
pub mod SizeLaws
pub mod ListedCodes
mod CodeLaws
mod Examples
