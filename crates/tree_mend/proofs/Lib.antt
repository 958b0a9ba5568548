pub mod Shapes
pub mod Steps
pub mod Walk
pub mod Descent
pub mod Mends
pub mod Settles
pub mod Paths
