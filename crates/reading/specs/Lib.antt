pub mod Orders
pub mod Data
pub mod Stages
pub mod Repeats
pub mod Lookup
pub mod Reader
pub mod Answers
pub mod Limits
