pub mod Lines
mod Idling
pub mod Together
