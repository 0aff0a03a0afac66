pub mod Days
pub mod Standing
pub mod DayByDay
pub mod SeasonHours
pub mod Settled
pub mod Comparing
