-- What the contracts of `specimen` cite.
pub mod Agreement
