-- The laws of `stages`. For a table that holds sound drafts, the layers above use those files that say that a stage answers the first of the
-- faults that `answers` lists: RepeatFaults, RuleLaws, ReferenceFaults and ChoiceFaults.
pub mod RepeatLaws
pub mod RepeatFaults
pub mod RuleLaws
pub mod FormLaws
pub mod ReferenceLaws
pub mod ReferenceFaults
pub mod ChoiceLaws
pub mod ChoiceFaults
