-- Definitions that no contract of a call cites.
pub mod Parts
