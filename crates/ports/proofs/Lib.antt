pub mod Columns
pub mod Ascending
pub mod Fewer
mod Inserting
pub mod Places
pub mod Sides
