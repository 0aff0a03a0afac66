pub mod Asked
pub mod Words
pub mod Taking
pub mod Reading
pub mod Written
