-- An entry of a listing, and what it is to add entries to a lent list.
pub mod Entries
