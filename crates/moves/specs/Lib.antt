pub mod Moves
pub mod Scaling
