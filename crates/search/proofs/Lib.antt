mod Exploring
pub mod Meaning
