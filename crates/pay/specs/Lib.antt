pub mod Listed
pub mod Paying
