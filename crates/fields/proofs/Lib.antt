pub mod LookUps
pub mod EntryLaws
pub mod SizeLaws
