-- The answers of the call that only reads.
pub mod Answers
