pub mod Agreeing
pub mod Forms
pub mod Together
