-- Edge lists as graphs, and what deciding says of them.
pub mod Rounds
