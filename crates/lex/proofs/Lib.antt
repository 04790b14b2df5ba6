-- Laws for whoever reads tokens: where a token lies, the list of all tokens, a token's own bytes.
pub mod Progress
pub mod TokenList
pub mod OwnWord
-- Theorems by computation: the specimens.
pub mod Specimens
-- What the proofs of the functions and of the laws lean on.
pub mod Shape
mod Comments
mod Cases
