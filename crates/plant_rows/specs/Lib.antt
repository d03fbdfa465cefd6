-- A row that was read.
pub mod Rows
