pub mod Standing
pub mod Laid
pub mod Made
pub mod Left
pub mod Existing
pub mod Whole
