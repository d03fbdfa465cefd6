-- The machines of a plant in a table, and the first that fails.
pub mod Machines
pub mod OneProof
