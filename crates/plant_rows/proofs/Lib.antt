-- Laws of a row that was read.
pub mod FieldLaws
