-- What a price class is.
pub mod Classes
