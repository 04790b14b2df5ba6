-- What the contracts of `texts` cite: the digits of a number, the line of a refusal, and what it means that a case agrees.
pub mod Digits
pub mod Line
pub mod Agreement
