pub mod Windows
pub mod Did
