-- What follows from the rules.
mod Facts
pub mod Exactly
mod Sums
mod Room
mod Isolation
mod Places
mod Store
pub mod Returns
mod Steps
mod Clear
mod Promises
mod Alike
mod Apart
mod Rule
mod Frame
mod OnePort
mod Kind
mod Served
mod Counted
mod Unread
mod Cases
mod Edge
mod Spoilt
mod Lies
mod Bounded
mod Shown
pub mod Laws
