mod Quiet
mod QuietRows
pub mod Adding
pub mod Counting
pub mod Executing
pub mod Growing
pub mod Idling
pub mod Knowing
pub mod Marking
pub mod Numbered
pub mod Resting
pub mod Sections
pub mod Taking
