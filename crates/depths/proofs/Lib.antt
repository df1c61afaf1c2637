pub mod Sources
pub mod Deepest
pub mod Rounds
pub mod Rules
pub mod Fewer
