pub mod Nets
pub mod Parts
pub mod Prices
pub mod Laws
