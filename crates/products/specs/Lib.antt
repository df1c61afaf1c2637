pub mod Reports
pub mod Trials
