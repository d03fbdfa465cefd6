-- What the answers of the writer say, and what it owes. `Inner` is for its own functions.
pub mod Answers
pub mod Writing
pub mod Inner
