-- Worked cases, on the words.
pub mod Stages
pub mod Front
