pub mod Gathered
pub mod Kept
pub mod Passed
pub mod Related
pub mod Spreading
pub mod Walks
