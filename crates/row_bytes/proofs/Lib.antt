-- Laws of bytes that are stored one behind the other, and of those of a row.
pub mod StoreLaws
pub mod RowLaws
