pub mod Answer
pub mod Contents
pub mod Ready
pub mod Sources
pub mod Pushed
pub mod Verdict
pub mod Words
pub mod Tracing
