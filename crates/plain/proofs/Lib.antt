pub mod Enumeration
pub mod Fronts
pub mod Triples
pub mod Pairs
pub mod Earliest
pub mod Judging
