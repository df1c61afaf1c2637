pub mod Lines
pub mod Forms
pub mod Readings
pub mod WidthLines
