-- The plant file: what reading finds, twin rows, the format, its limits, and what the functions that read it answer.
pub mod Found
pub mod Twins
pub mod Reading
pub mod Limits
pub mod Refusals
pub mod Steps
pub mod Checks
