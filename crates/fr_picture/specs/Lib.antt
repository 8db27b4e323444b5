pub mod Places
pub mod Owners
pub mod Frames
pub mod Shares
pub mod Dynamics
pub mod Ranges
pub mod Guards
pub mod Schedules
