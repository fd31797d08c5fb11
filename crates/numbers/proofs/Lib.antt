pub mod Sixteen
pub mod Examples
pub mod Returned
