-- The numbers of a cycle set.
pub mod Numbers
pub mod Heads
