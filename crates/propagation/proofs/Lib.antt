pub mod Narrowed
pub mod Lone
