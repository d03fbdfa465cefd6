-- Laws of the shortest cycle.
pub mod ShortestLaws
