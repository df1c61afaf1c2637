pub mod Counts
pub mod Form
pub mod Widths
