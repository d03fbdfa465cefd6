-- Signed numbers, and lists of edges.
pub mod Signs
pub mod EdgeLists
