-- What weighing says and owes.
pub mod Answers
pub mod Weighing
pub mod Inner
