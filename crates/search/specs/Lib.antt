pub mod Answers
pub mod WantedLaws
pub mod AmongLaws
pub mod AmongExamples
pub mod LimitsExamples
pub mod LimitsLaws
pub mod WalksLaws
