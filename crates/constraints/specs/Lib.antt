pub mod InnerConstraints
pub mod InnerTracking
pub mod InnerAttempt
