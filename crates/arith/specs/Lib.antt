pub mod Operations
pub mod Remainders
pub mod Words
pub mod Times
pub mod Moduli
pub mod Integers
