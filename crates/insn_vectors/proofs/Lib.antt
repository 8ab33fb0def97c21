pub mod Steps
pub mod Stored
pub mod Filled
