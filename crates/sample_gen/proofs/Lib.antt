pub mod Script
pub mod App
pub mod Drawn
pub mod Made
mod Oracle
