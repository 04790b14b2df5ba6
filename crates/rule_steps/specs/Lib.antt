-- The definitions that the contracts of `rule_steps` cite.
pub mod Steps
