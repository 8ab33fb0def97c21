pub mod Answer
pub mod Contents
pub mod Fit
pub mod Ready
pub mod Sources
pub mod Verdict
