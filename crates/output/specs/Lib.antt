pub mod Records
pub mod Program
pub mod Rules
pub mod ProgramLaws
pub mod Examples
pub mod InnerLength
