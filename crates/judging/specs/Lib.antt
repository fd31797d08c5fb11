pub mod InnerSaid
pub mod InnerTally
