pub mod Answer
pub mod Building
pub mod Contents
pub mod FileFaults
pub mod Pushed
pub mod Ready
pub mod Sources
pub mod Verdict
