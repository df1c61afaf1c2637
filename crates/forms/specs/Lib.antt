pub mod Answers
pub mod Breaking
pub mod Digits
pub mod Keys
pub mod Parts
pub mod Lines
