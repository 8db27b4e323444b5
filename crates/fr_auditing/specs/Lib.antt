pub mod AuditorFields
pub mod KeptReport
pub mod LongReading
pub mod LongStream
pub mod LongText
pub mod Phases
pub mod Tracking
