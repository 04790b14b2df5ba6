-- The laws of `finish`. The layers above use Finished: the passes make grammar's finished rows.
pub mod RowLoops
pub mod NumberLaws
pub mod ReferenceLaws
pub mod NumberedRows
pub mod FoundNumbers
pub mod Finished
