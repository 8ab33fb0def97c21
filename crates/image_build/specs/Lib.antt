pub mod Building
pub mod Built
pub mod Layout
pub mod Symbols
pub mod Accepted
