-- Laws of the checks.
pub mod BasicExamples
pub mod CheckLaws
pub mod WalkLaws
