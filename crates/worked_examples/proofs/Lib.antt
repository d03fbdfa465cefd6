-- The plants that the files read as, what the contracts leave to an answer, and the collected theorem.
pub mod Plants
pub mod AnswerLaws
pub mod Collected
pub mod Published
pub mod Detour
