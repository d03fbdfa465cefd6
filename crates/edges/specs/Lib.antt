-- What an edge list is.
pub mod Edges
