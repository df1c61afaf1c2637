pub mod Text
pub mod Steps
pub mod Pieces
pub mod Listings
pub mod Laws
