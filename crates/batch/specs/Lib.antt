pub mod Plans
pub mod Batches
pub mod Named
pub mod Readings
pub mod WrittenReadings
