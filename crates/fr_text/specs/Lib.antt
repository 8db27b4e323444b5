pub mod Digits
pub mod Spelling
pub mod Reading
pub mod Spaces
pub mod Words
pub mod Plain
pub mod Writing
