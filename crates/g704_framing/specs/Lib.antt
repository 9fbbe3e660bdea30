pub mod Least
pub mod Alignment
pub mod Age
pub mod Restart
pub mod Laws
pub mod Places
pub mod Replies
