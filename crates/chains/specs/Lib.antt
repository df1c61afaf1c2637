pub mod Rules
pub mod Chains
