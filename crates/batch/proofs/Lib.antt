pub mod Places
pub mod Adding
pub mod Reading
pub mod Named
pub mod Commas
pub mod Rows
pub mod ReadingsBack
