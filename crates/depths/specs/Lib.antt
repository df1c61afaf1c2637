pub mod Depths
pub mod DepthLaws
pub mod Fewer
