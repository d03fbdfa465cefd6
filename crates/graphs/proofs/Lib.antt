-- Laws of a graph in one list of numbers.
pub mod PartLaws
