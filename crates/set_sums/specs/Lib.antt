-- The sums of a cycle set.
pub mod Sums
