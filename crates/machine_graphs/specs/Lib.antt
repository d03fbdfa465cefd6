-- The graph of a machine's rows. `Inner` is for the function that adds one row.
pub mod Graphs
pub mod Inner
