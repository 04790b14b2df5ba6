-- What rows are evaluated to is what their expression means.
pub mod Theorems
-- The rows of an expression, on any stack; the code's stack and steps; the codes of operators.
mod MachineLaws
mod StackLaws
mod StepLaws
pub mod CodeLaws
-- Small expressions, computed.
mod Examples
