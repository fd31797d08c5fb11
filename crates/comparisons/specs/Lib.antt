pub mod InnerSaid
pub mod InnerWalking
