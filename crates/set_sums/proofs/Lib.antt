-- Laws of the sums of a cycle set.
pub mod SizeLaws
pub mod AddingLaws
