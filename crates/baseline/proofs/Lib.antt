pub mod Tops
pub mod FirstSome
pub mod DayReads
pub mod TenDays
pub mod Shown
pub mod Measures
