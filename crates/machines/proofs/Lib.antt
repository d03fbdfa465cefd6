-- Laws of one machine, and of the machines one after the other.
pub mod MachineLaws
pub mod TurnLaws
