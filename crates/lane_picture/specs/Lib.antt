pub mod Drawing
pub mod Sizes
