pub mod Chosen
pub mod Choosing
pub mod Counted
pub mod Held
pub mod Recorded
pub mod Running
pub mod Seasons
