pub mod InnerLone
pub mod InnerRows
