-- A field of a row that was read.
pub mod Fields
