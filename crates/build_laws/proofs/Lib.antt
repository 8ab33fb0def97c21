pub mod Arranging
pub mod Filling
pub mod OneImage
pub mod OneImageData
mod Free
mod Cards
mod Supervisor
mod Servers
mod Clients
mod Symbols
mod Each
pub mod Build
