pub mod Placing
pub mod Books
pub mod Founding
pub mod Runs
pub mod Same
pub mod Movable
pub mod Fills
