mod Common
pub mod Leasts
pub mod Moves
pub mod Turns
pub mod Ends
pub mod Ages
pub mod Settles
pub mod Agrees
pub mod Keeps
pub mod Placings
pub mod Standings
pub mod Searches
pub mod Replies
