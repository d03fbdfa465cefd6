-- How the input of weighing is judged.
pub mod Checks
