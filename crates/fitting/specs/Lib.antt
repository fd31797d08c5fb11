pub mod InnerPartial
