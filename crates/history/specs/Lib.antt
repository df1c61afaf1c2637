pub mod Outcomes
pub mod Events
pub mod Books
pub mod Runs
pub mod Histories
pub mod Replays
