pub mod Widening
pub mod Gliding
