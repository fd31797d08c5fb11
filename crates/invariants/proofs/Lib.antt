pub mod Powers
pub mod Questions
