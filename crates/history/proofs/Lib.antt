pub mod Books
pub mod Runs
pub mod Histories
pub mod Replays
