pub mod Scan
pub mod Seeing
pub mod Full
pub mod Leaf
