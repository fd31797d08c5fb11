pub mod InnerOpened
