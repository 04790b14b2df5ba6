-- The laws of `print`: flag words, and a phrase element by element.
pub mod FlagLaws
pub mod PhraseLaws
