-- Definitions that only the contracts of the functions below the writer cite.
pub mod Rows
pub mod Kinds
