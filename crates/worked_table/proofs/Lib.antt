pub mod Loads
pub mod Steps
pub mod Back
pub mod Limits
pub mod Said
pub mod Comments
