pub mod Bytes
pub mod Effect
pub mod Keeps
pub mod Sizes
pub mod Families
pub mod Fetch
