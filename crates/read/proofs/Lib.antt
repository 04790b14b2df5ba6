pub mod AcceptedRows
pub mod AnswerLaws
pub mod SurveyLaws
pub mod FaultLaws
pub mod AcceptLaws
pub mod FinishLaws
pub mod ReadLaws
pub mod Demands
