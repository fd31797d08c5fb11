pub mod Alone
pub mod Marks
pub mod Placing
