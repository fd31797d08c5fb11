pub mod Calls
pub mod Limited
pub mod Limits
pub mod Demand3
pub mod Among
pub mod AmongLaws
pub mod AmongExamples
