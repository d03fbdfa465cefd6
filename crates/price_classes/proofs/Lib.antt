-- Laws of the edges and classes.
pub mod BasicExamples
pub mod EdgeLaws
