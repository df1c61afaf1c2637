pub mod Runs
pub mod Texts
pub mod Steps
pub mod Readings
pub mod Computed
