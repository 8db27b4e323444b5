pub mod Ends
pub mod Failures
