-- The definitions that the contracts of `question_kinds` cite.
pub mod Kinds
