-- The laws of `table_screen`: how many rules there are, and what the code's calls give.
pub mod CountLaws
pub mod CallLaws
-- The questions of an accepted source; the bytes of its table; its screen.
pub mod Questions
pub mod Theorems
pub mod SourceScreen
pub mod Examples
