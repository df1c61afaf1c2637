pub mod Uses
pub mod Rises
