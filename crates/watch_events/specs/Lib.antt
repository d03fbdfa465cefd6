-- What counting an event gives. Only private functions cite it.
pub mod Counting
