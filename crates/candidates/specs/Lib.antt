pub mod InnerKeys
pub mod InnerPairs
