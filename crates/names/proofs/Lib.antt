pub mod Values
pub mod Parts
pub mod Turns
