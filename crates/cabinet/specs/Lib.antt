-- The version of the C interface.
pub mod Versions
