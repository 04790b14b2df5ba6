-- What it is that a list is in source order, and that its first is the earliest.
pub mod Order
