pub mod Decimals
pub mod Form
pub mod Naturals
pub mod NaturalScan
pub mod Scan
