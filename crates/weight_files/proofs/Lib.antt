-- Laws of the weights of a file, and an example.
pub mod WeightLaws
pub mod BasicExamples
