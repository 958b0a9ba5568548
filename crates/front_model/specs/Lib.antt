-- The front's rules. Front says what it does to lists, and its proof goes by that; Handed, Desk and Damage say it on the words.
pub mod Front
pub mod Handed
pub mod Desk
pub mod Damage
pub mod Promise
pub mod Cases
