pub mod Room
pub mod Shaping
pub mod Look
pub mod Full
