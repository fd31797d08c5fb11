pub mod InnerRoom
pub mod InnerRows
