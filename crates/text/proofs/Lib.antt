pub mod Cutting
pub mod Marks
pub mod Digits
pub mod Blanks
pub mod Written
pub mod Stamps
pub mod Words
pub mod Going
