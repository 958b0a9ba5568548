pub mod Pool
pub mod Returns
pub mod Blanks
