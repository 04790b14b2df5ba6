-- The answer by its tests; which answers are good; what the code's calls give.
pub mod AnswerLaws
pub mod FaultLaws
pub mod RowLaws
pub mod ShowLaws
-- What a call does.
pub mod Demands
