pub mod Words
pub mod Numbers
pub mod NumbersExamples
pub mod Returned
