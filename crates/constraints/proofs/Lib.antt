pub mod Constraints
pub mod Placing
pub mod Noting
pub mod Images
pub mod Attempts
