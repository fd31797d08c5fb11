pub mod Records
pub mod Said
pub mod Program
pub mod Rules
