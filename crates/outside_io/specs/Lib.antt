pub mod Calls
pub mod Held
pub mod Host
pub mod Memory
pub mod Open
pub mod Outside
pub mod Seen
