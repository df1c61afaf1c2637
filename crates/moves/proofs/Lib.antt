pub mod Turns
pub mod Scales
