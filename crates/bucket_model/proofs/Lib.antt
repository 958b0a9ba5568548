-- What follows from the rules.
mod Writes
mod Fill
mod Load
mod Tells
mod Tower
mod Chain
mod Linked
mod Facts
pub mod Exactly
pub mod Kind
mod Returns
mod Order
mod Sorted
mod Queue
mod Pop
mod Push
mod Runs
pub mod Clear
mod Taken
mod Joined
mod Swapped
pub mod Promises
mod Untouched
mod Unread
mod Places
mod Replace
mod Served
mod Spare
mod Blind
mod Shown
mod Spoilt
pub mod Laws
