-- The laws of `ranks`. Lists: places in a list, and counting. Ranks: the ones of a row, and how ranks fall.
-- Places: what the loops do. Ordering: rules by rising rank. Theorems: what is believed, by the closed map.
pub mod Lists
pub mod Ranks
pub mod Places
pub mod Ordering
pub mod Theorems
pub mod Examples
