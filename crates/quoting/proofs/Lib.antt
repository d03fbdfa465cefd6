-- Laws of quoting.
pub mod BasicExamples
pub mod CeilingLaws
pub mod OwedLaws
