pub mod Files
pub mod FilesLaws
pub mod Rules
pub mod Answers
