pub mod Form
pub mod Drafts
pub mod Scan
pub mod Reading
