pub mod Works
pub mod Turned
pub mod Marked
pub mod Searching
pub mod Allowed
