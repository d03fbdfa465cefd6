-- The events of the theory.
pub mod Events
