-- Laws of a table of rows.
pub mod StoreLaws
pub mod RowLaws
