-- Laws of the numbers of a cycle set.
pub mod FoundLaws
pub mod NumberLaws
