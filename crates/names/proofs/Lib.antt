-- The index finds the rows that document 01 says a name finds, and stage 9 by it the first of its faults.
pub mod NameFaults
-- What this rests on: chains of entries, and the index as the code makes and searches it.
pub mod ChainLaws
pub mod NameLaws
