pub mod Tables
pub mod Count
pub mod PerBit
pub mod Either
pub mod Supplied
