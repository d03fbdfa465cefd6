-- Laws of listing: the rows of a table give the machine's cycles, and the answers.
pub mod BasicExamples
pub mod TableCycles
pub mod ListingLaws
pub mod AnswerLaws
