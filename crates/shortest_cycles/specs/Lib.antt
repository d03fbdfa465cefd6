-- The shortest cycle of all machines.
pub mod ShortestCycles
pub mod Inner
