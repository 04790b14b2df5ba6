-- The laws of `rule_values`: the rows of rules, and their values one after another.
pub mod PlaceLaws
pub mod ValueLaws
-- The values that are found are the rules' values.
pub mod Theorems
