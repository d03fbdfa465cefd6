-- Laws of edge lists.
pub mod ListedLaws
