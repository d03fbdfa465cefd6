-- The answers of the watcher as structs.
pub mod Structs
