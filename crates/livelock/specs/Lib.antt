-- The definitions of the theory, a file for each subject of document 01; then what the crates below the calls promise by.
pub mod Lists
pub mod Plants
pub mod Runs
pub mod Cycles
pub mod Tests
pub mod Weights
pub mod Figures
pub mod CycleSets
pub mod Graphs
pub mod Differences
