-- What the search for a cycle says.
pub mod Searches
