pub mod Calls
pub mod InnerQuestions
