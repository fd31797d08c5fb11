pub mod Products
pub mod Remaining
pub mod Triples
pub mod Values
pub mod Counting
pub mod PerElement
