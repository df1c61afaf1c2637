pub mod Skips
pub mod Listed
pub mod Takes
pub mod Following
pub mod Again
pub mod Entering
pub mod Lines
pub mod Lengths
