pub mod Outcomes
pub mod Views
pub mod Swept
pub mod Told
pub mod Comparing
pub mod Stretches
pub mod Leading
pub mod Sweeping
