-- The program `ceiling`: its two files and its line. `Inner` is for the function that writes an answer.
pub mod Lines
pub mod Files
pub mod Inner
