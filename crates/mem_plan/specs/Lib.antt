pub mod Faults
pub mod Order
pub mod Placing
pub mod Sizes
