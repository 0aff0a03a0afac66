pub mod Days
pub mod Sums
pub mod Original
pub mod Ranked
pub mod Measuring
