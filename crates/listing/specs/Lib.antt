-- What listing says and owes.
pub mod Answers
pub mod Listing
pub mod Inner
