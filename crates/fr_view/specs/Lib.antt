pub mod Failures
pub mod Tasks
