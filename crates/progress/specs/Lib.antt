pub mod Classes
pub mod Output
pub mod Progress
pub mod Held
