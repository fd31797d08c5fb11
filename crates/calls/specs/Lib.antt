pub mod Kinds
pub mod Calls
pub mod Limited
pub mod Allowed
pub mod Among
pub mod Subsemigroups
pub mod Copies
pub mod CallsExamples
