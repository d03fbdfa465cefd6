-- The rows from state to state. `Inner` is for the functions that count the entries of a listing.
pub mod Pairs
pub mod Inner
