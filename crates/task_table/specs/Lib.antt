pub mod kept
pub mod model
