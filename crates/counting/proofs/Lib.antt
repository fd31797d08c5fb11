pub mod Whole
pub mod Among
pub mod Alike
pub mod Memory
