pub mod Answers
pub mod InnerPerElement
pub mod InnerPowers
