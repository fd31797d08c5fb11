pub mod Indicators
pub mod Found
pub mod Choice
