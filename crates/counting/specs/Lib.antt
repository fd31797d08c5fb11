pub mod InnerAmong
pub mod InnerWhole
pub mod InnerMemory
