-- The contents, g and d, and their checks.
pub mod Contents
pub mod Checks
