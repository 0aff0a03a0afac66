pub mod Blank
pub mod Hours
pub mod Rest
pub mod Tables
pub mod Tests
pub mod View
