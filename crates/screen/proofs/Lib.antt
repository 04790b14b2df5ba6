-- The theorems of screens, and what they rest on.
pub mod KindLaws
pub mod RowLaws
pub mod RoundLaws
pub mod ExpressionLaws
pub mod Theorems
pub mod Examples
