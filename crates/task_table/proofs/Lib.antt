pub mod model
pub mod kept
