-- What a list of numbers says as a cycle set, and what confirming says and owes.
pub mod Answers
pub mod Confirming
pub mod Inner
