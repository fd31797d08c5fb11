pub mod CallsLaws
pub mod InnerParts
