pub mod Reading
pub mod Rules
pub mod Rows
pub mod Moving
