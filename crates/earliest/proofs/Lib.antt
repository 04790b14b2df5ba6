-- The faults of refusals 5 and 16 stand in source order.
pub mod Theorems
-- What the theorems lean on.
pub mod Sublists
pub mod Gathered
pub mod Seconds
pub mod Outside
