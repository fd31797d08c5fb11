pub mod Laws
pub mod Examples
pub mod InnerHeld
pub mod ProgressLaws
pub mod Requests
