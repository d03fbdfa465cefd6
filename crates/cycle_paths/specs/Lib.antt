-- What a listing is, its cycles by extension of a path, and their entries. `Inner` is for the function that extends a path.
pub mod Listings
pub mod Cycles
pub mod Rows
pub mod Entries
pub mod Extensions
pub mod Inner
