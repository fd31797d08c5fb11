pub mod InnerNext
