pub mod Cells
pub mod Days
pub mod HourLists
pub mod LatestDays
pub mod Runs
pub mod Sounds
pub mod Tables
