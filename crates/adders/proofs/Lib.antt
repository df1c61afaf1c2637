pub mod Follow
pub mod Broken
pub mod Sounds
pub mod Turns
pub mod Padded
pub mod Places
