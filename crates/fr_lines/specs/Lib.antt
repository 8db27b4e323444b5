pub mod Versions
pub mod Parts
pub mod Spelling
pub mod PartReading
pub mod Reading
pub mod Spelled
pub mod Bare
pub mod Forms
