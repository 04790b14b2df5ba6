-- Document 01's grammar as a table, and its notation.
pub mod Rules
pub mod Notation
pub mod Grammar
pub mod Levels
-- What a derivation of a source is, and the verdict on its tokens.
pub mod Source
pub mod Derivation
pub mod Lookahead
pub mod Reading
-- Parts of a derivation: where they stand, places, flags, numbers and their ranges.
pub mod Parts
pub mod Positions
pub mod Places
pub mod Flags
pub mod Ranges
