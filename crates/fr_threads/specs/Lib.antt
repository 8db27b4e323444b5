pub mod Outcomes
pub mod Running
pub mod Failures
pub mod Pacing
pub mod ErrorNames
