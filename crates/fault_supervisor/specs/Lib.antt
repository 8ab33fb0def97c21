pub mod Restarts
pub mod Meanings
