-- The answers of the C interface.
pub mod Structs
