pub mod Alike
pub mod Kept
pub mod Answers
pub mod Fronts
pub mod Serving
pub mod Taps
pub mod Tracing
