pub mod Gathering
pub mod Selecting
pub mod ReadOver
pub mod Canonical
pub mod Writes
