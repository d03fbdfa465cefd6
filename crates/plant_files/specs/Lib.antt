-- The shortest file of a plant. `Inner` is for what reads and writes it.
pub mod Files
pub mod Inner
