pub mod Linked
pub mod Blanks
