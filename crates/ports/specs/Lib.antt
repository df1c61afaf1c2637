pub mod Ports
pub mod Inputs
pub mod InputLaws
pub mod Fewer
