pub mod Steps
pub mod Depths
pub mod Read
