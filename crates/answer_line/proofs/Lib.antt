-- Laws of the line of an answer, of what is owed and of files longer than their buffers, and examples.
pub mod LineLaws
pub mod OwedLaws
pub mod BasicExamples
pub mod BufferLaws
