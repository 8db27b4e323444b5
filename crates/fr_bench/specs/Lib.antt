pub mod Audits
pub mod Commands
pub mod Failures
pub mod LongStops
pub mod Reading
pub mod Versions
