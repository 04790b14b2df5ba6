-- What the theorems speak of.
pub mod Matches
-- What their proofs go by.
pub mod RuleNumbers
