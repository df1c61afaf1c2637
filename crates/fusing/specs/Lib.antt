pub mod Fusing
pub mod Books
pub mod Tasks
pub mod Swaps
pub mod Causes
