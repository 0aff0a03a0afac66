pub mod Back
pub mod Sound
