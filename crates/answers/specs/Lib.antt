-- The rows of a derivation, and what each stage refuses.
pub mod Expression
pub mod Rows
pub mod Drafts
pub mod Stages
-- An answer, and demand 3 in document 01's own terms; the whole answer of reading and of the quick check.
pub mod Answer
pub mod Demand3
pub mod WholeAnswer
-- The resolved text, and the whole answer of resolving.
pub mod Text
pub mod Resolution
-- What theorems say of rows: their places, and where a walk down a derivation meets them.
pub mod RowPlaces
pub mod Reached
-- The form that a row stands in, and document 02's W-203.
pub mod Forms
-- Document 02's W-208.
pub mod MissingStep
