-- What it is to have stored bytes.
pub mod Stores
