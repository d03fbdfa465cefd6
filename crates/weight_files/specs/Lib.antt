-- The weights of a file's bytes, and those that are handed over.
pub mod WeightFiles
