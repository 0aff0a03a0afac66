pub mod Refusals
pub mod Meaning
pub mod Cells
pub mod Recording
