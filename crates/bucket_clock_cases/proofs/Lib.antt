pub mod Stages
pub mod Front
