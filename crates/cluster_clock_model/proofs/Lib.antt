mod Cases
mod Flight
mod Seen
mod Fine
pub mod Kept
pub mod Rest
pub mod Exactly
pub mod Drain
mod Lost
pub mod Promises
mod Level
mod Ends
mod Passes
mod OneStep
mod Runs
mod Unread
pub mod Laws
