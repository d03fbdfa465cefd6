-- Closed walks from one start. `Inner` is for the functions that go from table to table.
pub mod ClosedWalks
pub mod Inner
