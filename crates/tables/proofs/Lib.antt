pub mod Questions
pub mod Cells
