-- Laws of keys and of rows that are kept.
pub mod KeyLaws
pub mod KeptLaws
pub mod LentLaws
