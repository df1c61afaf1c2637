pub mod Scripts
pub mod Reports
