-- A configuration in lists.
pub mod Configurations
