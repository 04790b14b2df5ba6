-- The laws of elements, each kind with its symbol of the grammar, and the test whether a pattern spells symbols.
pub mod KindLaws
pub mod MarkLaws
pub mod TreeLaws
pub mod Ways
pub mod ElementKinds
pub mod WordValues
pub mod JoinedWords
pub mod FlagWords
pub mod Alternatives
pub mod Spelling
pub mod Spelled
pub mod EachSpelled
