-- A list of numbers as a cycle set. `Inner` is for the functions that judge its entries.
pub mod Sets
pub mod RowsThere
pub mod Entries
pub mod Inner
