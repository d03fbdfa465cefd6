-- What the lists of a watcher are.
pub mod Watchers
pub mod Inner
