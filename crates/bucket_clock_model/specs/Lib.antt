-- The clocked bucket queue's rules. Lists, Pipe and Clock say how its proof sees it: lists, and stages that have counted them.
pub mod Lists
pub mod Pipe
pub mod Clock
pub mod Words
pub mod Links
pub mod Desk
pub mod Damage
pub mod Promise
