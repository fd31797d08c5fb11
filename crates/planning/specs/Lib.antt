pub mod Degrees
pub mod DegreesLaws
pub mod InnerDegrees
pub mod Examples
pub mod Answers
pub mod Calls
pub mod CallsLaws
pub mod Requests
