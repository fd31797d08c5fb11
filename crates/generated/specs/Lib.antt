pub mod Answers
pub mod InnerFound
