pub mod Steps
pub mod Root
