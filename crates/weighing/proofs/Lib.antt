-- Laws of weighing.
pub mod WeighingLaws
pub mod PassedLaws
