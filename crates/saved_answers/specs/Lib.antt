-- What questions answer.
pub mod Answers
-- The same for answers that are searched by halves.
pub mod Search
-- Which answers are good.
pub mod Good
