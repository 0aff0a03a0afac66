pub mod Pieces
pub mod Numbers
pub mod Stops
pub mod Left
pub mod Stamps
pub mod Going
