pub mod Answers
pub mod InnerAmong
pub mod InnerSearching
