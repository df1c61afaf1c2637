pub mod Blocks
pub mod Reports
