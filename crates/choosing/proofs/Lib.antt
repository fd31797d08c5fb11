pub mod Adding
pub mod Next
