pub mod Compared
pub mod Measured
