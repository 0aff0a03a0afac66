pub mod CalledSeasons
pub mod FirstLoads
pub mod HoursHeld
pub mod Lines
pub mod Places
pub mod Readings
pub mod Tasks
