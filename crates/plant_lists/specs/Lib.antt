-- The list of numbers that says a plant. `Inner` is for the functions that judge it.
pub mod Lists
pub mod Inner
