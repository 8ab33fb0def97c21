pub mod Questions
pub mod Properties
pub mod Values
pub mod Statements
pub mod Reading
pub mod Drafts
