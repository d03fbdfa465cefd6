-- Laws of paths: the cycles by extension of a path are the one listing, and what the functions store and count step by step are their entries.
pub mod ElementLaws
pub mod OrderLaws
pub mod MarkLaws
pub mod PathLaws
pub mod CycleLaws
pub mod FillingLaws
pub mod ExtensionLaws
pub mod SearchLaws
