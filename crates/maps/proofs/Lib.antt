pub mod Pairs
pub mod Faults
