pub mod Flat
pub mod Played
