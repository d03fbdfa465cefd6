-- The decoded table, and why a struct can keep what is known of it. `Inner` is for the functions that fill it.
pub mod Tables
pub mod Reads
pub mod OneProof
pub mod Inner
