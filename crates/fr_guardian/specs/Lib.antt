pub mod Guarding
pub mod GuardianFields
pub mod Intervals
pub mod Periods
