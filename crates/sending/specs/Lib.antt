pub mod InnerSending
