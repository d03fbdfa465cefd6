-- Laws of configurations in lists.
pub mod StoreLaws
pub mod RowLaws
pub mod BasicExamples
