-- What an expression means, what it refers to, and what a form set's rules are worth.
pub mod Meaning
pub mod References
pub mod Rules
