pub mod Accepts
mod Again
mod Agreed
mod Collected
mod First
mod Grow
mod Pieces
pub mod Places
mod Restores
mod Rows
mod Saves
mod Single
mod Splits
pub mod StandsForSome
mod Told
mod Viewed
mod WaitsRestored
mod TaskViews
mod Loads
mod Boards
pub mod SpelledAlike
pub mod Few
mod Written
pub mod Fixed
pub mod Runs
pub mod Returned
