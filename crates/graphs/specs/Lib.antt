-- The rows of a machine as a graph.
pub mod Graphs
