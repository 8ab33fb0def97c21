pub mod Asking
pub mod CommandLine
pub mod Required
pub mod Table
