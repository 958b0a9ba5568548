pub mod Sized
pub mod Clocked
pub mod CasesLines
pub mod Heard
