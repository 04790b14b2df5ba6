-- What is proved of the rules of a source; and three of them, computed.
pub mod Theorems
pub mod OneForm
pub mod Examples
-- From a derivation's trees to the rows of their rules in a table.
pub mod Grammar
pub mod RuleRows
pub mod TreeRows
pub mod Tables
-- What such rows tell: the rules' numbers, their places, their steps.
pub mod Numbers
pub mod Places
pub mod Steps
-- What stage 4 leaves.
pub mod Shallow
