-- What ascending answers say is found by halves.
pub mod Theorems
-- Good answers, in W-202's words.
pub mod GoodTheorems
-- The walk over the answers; how the search goes on, and where it comes to among ascending answers; what is answered, by the code's tests.
mod WalkLaws
mod PairLaws
mod SearchLaws
mod AscendingLaws
mod KindLaws
-- Good answers, by the code's tests.
mod GoodLaws
-- Small lists of answers, computed.
mod Examples
