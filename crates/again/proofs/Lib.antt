-- What is proved.
pub mod Theorems
-- What the theorems lean on.
pub mod Lists
pub mod Faults
pub mod Owns
pub mod RuleNumbers
pub mod Questions
pub mod NumberedDrafts
pub mod SettledRows
pub mod Likeness
pub mod LikeStages
pub mod TextRows
pub mod TextNames
pub mod TextReferences
pub mod SameSteps
