pub mod InnerEnumeration
pub mod InnerSaid
pub mod InnerTables
