pub mod Files
pub mod Numbers
pub mod Length
pub mod Rules
