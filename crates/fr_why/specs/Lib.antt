pub mod Faults
pub mod Finding
pub mod Heads
pub mod Reasons
pub mod Asking
pub mod WhyText
pub mod Explains
