pub mod Refusals
pub mod Values
pub mod Rules
pub mod Lists
