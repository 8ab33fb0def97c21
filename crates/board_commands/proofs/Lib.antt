pub mod Answering
pub mod EachState
pub mod Ending
pub mod Faulting
pub mod Readying
pub mod Refusals
pub mod Seeding
pub mod Starting
