-- The laws of `meaning`. Theorems: what rules without circles are worth solves their equations, and nothing else does. Named: what a meaning depends on.
-- Steps: the steps are the references. Rounds: solutions by ranks. Examples: expressions and rules, computed.
pub mod Theorems
pub mod Examples
-- What these rest on.
pub mod Named
pub mod Steps
pub mod Rounds
