-- Laws of the contents, g and d.
pub mod BasicExamples
pub mod AmountLaws
pub mod ZeroLast
pub mod WalkLaws
