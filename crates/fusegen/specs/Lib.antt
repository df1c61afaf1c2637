pub mod Scripts
pub mod Generated
pub mod Answers
