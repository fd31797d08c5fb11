pub mod Leaders
pub mod Orbits
pub mod Counting
pub mod Totals
pub mod Answering
pub mod Absence
pub mod Onto
pub mod Renamed
