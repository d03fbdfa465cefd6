-- The keys of rows, and what is kept of the rows of a machine.
pub mod Keys
pub mod Kept
