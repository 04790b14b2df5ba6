pub mod Lists
pub mod Places
pub mod Kept
pub mod SoundRow
pub mod Expressions
pub mod Statements
pub mod Options
pub mod DraftsSound
pub mod NameCount
pub mod AllRows
-- Document 02's W-204.
pub mod SizedRows
