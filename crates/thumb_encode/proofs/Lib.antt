pub mod Back
pub mod Wide
pub mod Again
pub mod Both
pub mod Decodes
