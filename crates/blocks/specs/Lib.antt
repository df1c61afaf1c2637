pub mod Uses
pub mod Blocks
pub mod Calls
pub mod Books
pub mod Runs
pub mod Filling
