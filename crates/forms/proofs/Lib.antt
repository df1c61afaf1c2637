pub mod Breaks
pub mod Digits
pub mod KeyLines
pub mod PartLines
mod Lines
