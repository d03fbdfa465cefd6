-- Laws of the search.
pub mod SearchLaws
