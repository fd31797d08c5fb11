pub mod InnerCounting
pub mod InnerPerElement
pub mod Tables
