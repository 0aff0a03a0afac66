pub mod Days
pub mod Nearest
pub mod Written
pub mod Messages
pub mod Accepted
