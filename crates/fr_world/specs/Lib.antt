pub mod Failures
pub mod Serving
