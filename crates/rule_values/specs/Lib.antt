-- The definitions that the contracts of `rule_values` cite.
pub mod Values
-- What it takes for them to be the rules' values.
pub mod Ready
