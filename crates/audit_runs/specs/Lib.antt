pub mod Spoken
pub mod Last
