-- What quoting says and owes.
pub mod Answers
pub mod Quoting
pub mod Inner
