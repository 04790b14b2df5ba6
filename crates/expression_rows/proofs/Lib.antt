-- The laws of `expression_rows`: by the code's tests; and of rows that are those of an expression.
pub mod ValueLaws
pub mod Theorems
