pub mod Storeys
pub mod Linking
pub mod Rounds
