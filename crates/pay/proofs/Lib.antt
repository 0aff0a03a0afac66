pub mod Sums
pub mod Filling
pub mod YearWeeks
