-- The laws of the reader. The layers above use Streams, Resume, Keeping and the theorem of Theorems.
pub mod ReadingLaws
pub mod Streams
pub mod Resume
pub mod Keeping
pub mod Pieces
pub mod Nodes
pub mod Taking
pub mod FlagLists
pub mod FlagLoop
pub mod Runs
pub mod Theorems
pub mod PhraseLoop
