pub mod InnerFound
pub mod InnerChoice
