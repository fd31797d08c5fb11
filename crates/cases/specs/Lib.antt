pub mod InnerAnswering
pub mod InnerEmbedded
pub mod InnerPrinted
