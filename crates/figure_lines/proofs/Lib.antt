-- Laws of the writing and of decimal figures, and an example.
pub mod WritingLaws
pub mod DecimalLaws
pub mod BasicExamples
