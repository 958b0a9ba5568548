mod Places
mod Step
mod Heap
mod Rules
mod Levels
mod Words
mod Pass
mod Neat
mod NeatLevels
mod Index
mod Ways
mod Serve
pub mod Damages
pub mod Exactly
mod Stored
pub mod Promises
mod Slice
pub mod Unread
mod Cases
pub mod Edge
pub mod Laws
