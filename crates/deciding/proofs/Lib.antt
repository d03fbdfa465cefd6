-- Laws of edge lists and of deciding.
pub mod SignLaws
pub mod DecisionLaws
