-- Laws of cycle sets.
pub mod BasicExamples
pub mod TableLaws
pub mod SetLaws
pub mod LowestLaws
pub mod ConfirmingLaws
pub mod AnswerLaws
