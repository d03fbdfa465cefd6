-- The proof of what the contracts of weighing and confirming say together.
pub mod Theorem
