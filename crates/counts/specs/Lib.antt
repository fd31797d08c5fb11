pub mod InnerCounts
