pub mod Operands
pub mod Columns
pub mod Meanings
pub mod Adding
pub mod Comparing
pub mod Staying
