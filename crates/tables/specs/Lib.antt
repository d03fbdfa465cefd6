-- A table of rows in one list of bytes.
pub mod Tables
