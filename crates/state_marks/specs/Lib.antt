-- The states of a machine as marks: those that are left, those that have a row to a state, and dead ends.
pub mod Marks
