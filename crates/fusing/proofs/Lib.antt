mod Filling
mod Sums
mod Parts
mod Following
mod Choosing
pub mod Determined
pub mod Books
mod Swaps
mod InPlace
mod Causes
