pub mod Pieces
pub mod Joining
pub mod Counting
pub mod Walk
