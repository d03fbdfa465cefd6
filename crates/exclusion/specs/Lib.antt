-- What the contracts of weighing and confirming say together.
pub mod NeverBoth
