pub mod InnerRenaming
