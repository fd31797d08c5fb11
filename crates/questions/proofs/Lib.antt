pub mod Refusals
pub mod Among
